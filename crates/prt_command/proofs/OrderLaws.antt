-- Two items that are not the same one may be given in either order, and so may their words.
use Rattle.std.proofs.Common.{◌≡◌, List, [], ◌∷◌, ◌++◌, false, refl, ◌∙◌, ap, sym, subst}
use Rattle.std.proofs.Common.{append_assoc}
use Rattle.prt_addr.specs.Word.{Word}
use Rattle.prt_command.specs.Grammar.{AreItems, none, more, EachOnce, put_all}
use Rattle.prt_command.specs.LineKinds.{LineKind}
use Rattle.prt_command.specs.Items.{slot_of, has, no_items, put}
use Rattle.prt_command.specs.Reading.{Meaning}
use Rattle.prt_command.specs.Spelling.{Spells}
use Rattle.prt_command.specs.declared.item.Item.{Item}
use Rattle.prt_command.specs.declared.item.Item.TheVariants.{Destination, Via, Dev, Table, Proto, Scope, Src, Metric, Range, Tables, OfKind, Address, Source, Iif, Mark, Inverted, From, To, Fwmark, Priority, Action, Suppress}
use Rattle.prt_command.specs.declared.item.Items.{Items}
use Rattle.prt_command.specs.declared.request.Request.{Request}
use Rattle.prt_command.proofs.GrammarLaws.{one_item}

-- What two items do to each other: nothing.
pub record Apart (a b : Item) (given : Items) : Type 0 where
  pub same : put b (put a given) ≡ put a (put b given)
  pub first : has (slot_of a) (put b given) ≡ has (slot_of a) given
  pub second : has (slot_of b) (put a given) ≡ has (slot_of b) given

-- an item that another didn't give is apart from it
apart : (a b : Item) (given : Items) → has (slot_of b) (put a given) ≡ false → Apart a b given
apart (Destination x) (Destination y) given h = absurd cc
apart (Destination x) b given h = record { same = refl; first = refl; second = refl }
apart (Via x) (Via y) given h = absurd cc
apart (Via x) b given h = record { same = refl; first = refl; second = refl }
apart (Dev x) (Dev y) given h = absurd cc
apart (Dev x) b given h = record { same = refl; first = refl; second = refl }
apart (Table x) (Table y) given h = absurd cc
apart (Table x) b given h = record { same = refl; first = refl; second = refl }
apart (Proto x) (Proto y) given h = absurd cc
apart (Proto x) b given h = record { same = refl; first = refl; second = refl }
apart (Scope x) (Scope y) given h = absurd cc
apart (Scope x) b given h = record { same = refl; first = refl; second = refl }
apart (Src x) (Src y) given h = absurd cc
apart (Src x) b given h = record { same = refl; first = refl; second = refl }
apart (Metric x) (Metric y) given h = absurd cc
apart (Metric x) b given h = record { same = refl; first = refl; second = refl }
apart (Range x) (Range y) given h = absurd cc
apart (Range x) b given h = record { same = refl; first = refl; second = refl }
apart (Tables x) (Tables y) given h = absurd cc
apart (Tables x) b given h = record { same = refl; first = refl; second = refl }
apart (OfKind x) (OfKind y) given h = absurd cc
apart (OfKind x) b given h = record { same = refl; first = refl; second = refl }
apart (Address x) (Address y) given h = absurd cc
apart (Address x) b given h = record { same = refl; first = refl; second = refl }
apart (Source x) (Source y) given h = absurd cc
apart (Source x) b given h = record { same = refl; first = refl; second = refl }
apart (Iif x) (Iif y) given h = absurd cc
apart (Iif x) b given h = record { same = refl; first = refl; second = refl }
apart (Mark x) (Mark y) given h = absurd cc
apart (Mark x) b given h = record { same = refl; first = refl; second = refl }
apart Inverted Inverted given h = absurd cc
apart Inverted b given h = record { same = refl; first = refl; second = refl }
apart (From x) (From y) given h = absurd cc
apart (From x) b given h = record { same = refl; first = refl; second = refl }
apart (To x) (To y) given h = absurd cc
apart (To x) b given h = record { same = refl; first = refl; second = refl }
apart (Fwmark x) (Fwmark y) given h = absurd cc
apart (Fwmark x) b given h = record { same = refl; first = refl; second = refl }
apart (Priority x) (Priority y) given h = absurd cc
apart (Priority x) b given h = record { same = refl; first = refl; second = refl }
apart (Action x) (Action y) given h = absurd cc
apart (Action x) b given h = record { same = refl; first = refl; second = refl }
apart (Suppress x) (Suppress y) given h = absurd cc
apart (Suppress x) b given h = record { same = refl; first = refl; second = refl }

pub once_in_any_order : (given : Items) (front rest : List Item) (a b : Item) → EachOnce given (front ++ (a ∷ b ∷ rest)) → EachOnce given (front ++ (b ∷ a ∷ rest))
once_in_any_order given [] rest a b once =
    let d = apart a b given once.1.0 in
    (sym d.second ∙ once.1.0, (d.first ∙ once.0, subst (λ (g : Items). EachOnce g rest) d.same once.1.1))
once_in_any_order given (item ∷ front) rest a b once = (once.0, once_in_any_order (put item given) front rest a b once.1)

pub same_in_any_order : (given : Items) (front rest : List Item) (a b : Item) → EachOnce given (front ++ (a ∷ b ∷ rest)) → put_all (front ++ (a ∷ b ∷ rest)) given ≡ put_all (front ++ (b ∷ a ∷ rest)) given
same_in_any_order given [] rest a b once = ap (put_all rest) (apart a b given once.1.0).same
same_in_any_order given (item ∷ front) rest a b once = same_in_any_order (put item given) front rest a b once.1

-- ---- words

-- If the words of a line begin with these items, so do its items.
record Split (line : LineKind) (zs : List Word) (front all : List Item) : Type 0 where
  others : List Item
  is : all ≡ front ++ others
  spelled : AreItems line zs others

items_split : (line : LineKind) (ws front zs : List Word) (taken all : List Item) → AreItems line front taken → AreItems line ws all → ws ≡ front ++ zs → Split line zs taken all
items_split line ws front zs taken all none b e = record { others = all; is = refl; spelled = subst (λ u. AreItems line u all) e b }
items_split line ws front zs taken all (more w1 own1 rest1 item1 others1 i1 a) none e = absurd cc
items_split line ws front zs taken all (more w1 own1 rest1 item1 others1 i1 a) (more w2 own2 rest2 item2 others2 i2 b) e =
    let s = one_item line w1 w2 own1 own2 (rest1 ++ zs) rest2 item1 item2 i1 i2 (e ∙ ap (λ u. w1 ∷ u) (append_assoc own1 rest1 zs)) in
    let d = items_split line rest2 rest1 zs others1 others2 a b s.rest in
    record { others = d.others; is = ap (λ x. x ∷ others2) s.item ∙ ap (λ u. item1 ∷ u) d.is; spelled = d.spelled }

items_of_both : (line : LineKind) (front zs : List Word) (taken others : List Item) → AreItems line front taken → AreItems line zs others → AreItems line (front ++ zs) (taken ++ others)
items_of_both line front zs taken others none b = b
items_of_both line front zs taken others (more w own rest item more_items i a) b =
    subst (λ u. AreItems line (w ∷ u) (item ∷ (more_items ++ others))) (sym (append_assoc own rest zs)) (more w own (rest ++ zs) item (more_items ++ others) i (items_of_both line rest zs more_items others a b))

pub words_in_any_order : (verb : Meaning) (front a b rest : List Word) (taken : List Item) (x y : Item) (request : Request) → AreItems verb.line front taken → AreItems verb.line a (x ∷ []) → AreItems verb.line b (y ∷ []) → Spells verb (front ++ (a ++ (b ++ rest))) request → Spells verb (front ++ (b ++ (a ++ rest))) request
words_in_any_order verb front a b rest taken x y request f ia ib spells =
    let line = verb.line in
    let d1 = items_split line _ front (a ++ (b ++ rest)) taken spells.taken f spells.good.spelled refl in
    let d2 = items_split line _ a (b ++ rest) (x ∷ []) d1.others ia d1.spelled refl in
    let d3 = items_split line _ b rest (y ∷ []) d2.others ib d2.spelled refl in
    let is : spells.taken ≡ taken ++ (x ∷ y ∷ d3.others) = d1.is ∙ ap (λ u. taken ++ u) (d2.is ∙ ap (λ u. x ∷ u) d3.is) in
    let once : EachOnce no_items (taken ++ (x ∷ y ∷ d3.others)) = subst (λ u. EachOnce no_items u) is spells.good.once in
    record {
      taken = taken ++ (y ∷ x ∷ d3.others);
      good = record {
        spelled = items_of_both line front (b ++ (a ++ rest)) taken (y ∷ x ∷ d3.others) f (items_of_both line b (a ++ rest) (y ∷ []) (x ∷ d3.others) ib (items_of_both line a rest (x ∷ []) d3.others ia d3.spelled));
        once = once_in_any_order no_items taken d3.others x y once;
      };
      asks = ap verb.asks (sym (same_in_any_order no_items taken d3.others x y once)) ∙ ap (λ u. verb.asks (put_all u no_items)) (sym is) ∙ spells.asks;
    }
