-- Groups that take the place of others, and parts of lists that do.
use Rattle.std.proofs.Common.{◌≡◌, Result, Ok, Err, ℕ, ◌+◌, ◌-◌, ◌<◌, Bool, true, false, ◌||◌, List, [], ◌∷◌, ◌++◌, length, take, get_or, refl, sym, ap, ◌∙◌, subst}
use Rattle.std.specs.Prelude.{IfOk}
use Rattle.std.specs.List.{list_any}
use Rattle.std.specs.List.Sorted.{IsPermutation}
use Rattle.std.proofs.lemmas.List.{take_more}
use Rattle.std.proofs.lemmas.List.Elements.{All-from_recursion, recursion_from_All}
use Rattle.std.proofs.lemmas.List.Folds.{list_any-append}
use Rattle.std.proofs.lemmas.List.Sorted.{All-permutation, list_any-IsPermutation}
use Rattle.prt_rule.specs.declared.rule.Rule.{Rule}
use Rattle.prt_addr.proofs.Each.{each_append}
use Rattle.prt_rule.specs.declared.packet.Packet.{Packet}
use Rattle.prt_version.specs.State.{State}
use Rattle.prt_partition.specs.declared.sameness.Sameness.{Sameness}
use Rattle.prt_partition.proofs.Between.{each_left, each_right}
use Rattle.prt_impact.specs.Groups.{AreGroups, IsGroup, in_group, rules_of}
use Rattle.prt_impact.specs.Replacing.{AlwaysReplaces, AreAll, Replaces, ReplacesAt, ReplacesIfAll}
use Rattle.prt_impact.specs.declared.group.Group.{Group}
use Rattle.prt_impact.specs.declared.group.InterfaceSet.{InterfaceSet}

pub either_by : (a b : Bool) (X : Type 0) → (a || b) ≡ true → (a ≡ true → X) → (b ≡ true → X) → X
either_by true b X h f g = f refl
either_by false b X h f g = g h

pub left_of : (a b : Bool) → a ≡ true → (a || b) ≡ true
left_of true b h = refl
left_of false b h = absurd cc

pub right_of : (a b : Bool) → b ≡ true → (a || b) ≡ true
right_of true b h = refl
right_of false b h = h

module _ (sameness : Sameness) (before after : State) where
  abbrev Good : Group → Type 0
  Good group = IsGroup sameness before after group

  abbrev Has : Packet → Group → Bool
  Has packet group = in_group (rules_of before after) packet group

  pub itself : (groups : List Group) → Replaces sameness before after groups groups
  itself groups = record { sound = λ h. h; complete = λ good packet is h. h }

  pub then : (a b c : List Group) → Replaces sameness before after a b → Replaces sameness before after b c → Replaces sameness before after a c
  then a b c first second = record {
    sound = λ good. second.sound (first.sound good);
    complete = λ good packet is h. second.complete (first.sound good) packet is (first.complete good packet is h);
  }

  -- a part at the end, and one at the beginning
  pub behind : (others a b : List Group) → Replaces sameness before after a b → Replaces sameness before after (others ++ a) (others ++ b)
  behind others a b replaces = record {
    sound = λ good. each_append Good others b (each_left Good others a good) (replaces.sound (each_right Good others a good));
    complete = λ good packet is h.
        list_any-append (Has packet) others b
        ∙ either_by (list_any (Has packet) others) (list_any (Has packet) a) ((list_any (Has packet) others || list_any (Has packet) b) ≡ true) (sym (list_any-append (Has packet) others a) ∙ h)
        (λ there. left_of (list_any (Has packet) others) (list_any (Has packet) b) there)
        (λ there. right_of (list_any (Has packet) others) (list_any (Has packet) b) (replaces.complete (each_right Good others a good) packet is there));
  }

  pub before_others : (others a b : List Group) → Replaces sameness before after a b → Replaces sameness before after (a ++ others) (b ++ others)
  before_others others a b replaces = record {
    sound = λ good. each_append Good b others (replaces.sound (each_left Good a others good)) (each_right Good a others good);
    complete = λ good packet is h.
        list_any-append (Has packet) b others
        ∙ either_by (list_any (Has packet) a) (list_any (Has packet) others) ((list_any (Has packet) b || list_any (Has packet) others) ≡ true) (sym (list_any-append (Has packet) a others) ∙ h)
        (λ there. left_of (list_any (Has packet) b) (list_any (Has packet) others) (replaces.complete (each_left Good a others good) packet is there))
        (λ there. right_of (list_any (Has packet) b) (list_any (Has packet) others) there);
  }

  -- in another order
  pub reordered : (a b : List Group) → IsPermutation a b → Replaces sameness before after a b
  reordered a b moved = record {
    sound = λ good. recursion_from_All Good b (All-permutation Good a b moved (All-from_recursion Good a good));
    complete = λ good packet is h. sym (list_any-IsPermutation (Has packet) a b moved) ∙ h;
  }

  -- one group more: those so far are replaced, and the next one with them
  pub one_more : (groups : List Group) (i : ℕ) (group : Group) (old new : List Group) → i < length groups → group ≡ get_or groups i group →
      Replaces sameness before after (old ++ group ∷ []) new → Replaces sameness before after (take i groups) old → Replaces sameness before after (take (i + 1) groups) new
  one_more groups i group old new lt is pushed held =
      subst (λ gs. Replaces sameness before after gs new) (sym (take_more groups i group lt ∙ ap (λ (g : Group). take i groups ++ g ∷ []) (sym is)))
      (then (take i groups ++ group ∷ []) (old ++ group ∷ []) new (before_others (group ∷ []) (take i groups) old held) pushed)

  pub are_groups : (old new : List Group) → Replaces sameness before after old new → AreGroups sameness before after old → AreGroups sameness before after new
  are_groups old new replaces are = record {
    sound = replaces.sound are.sound;
    complete = λ packet is differs. replaces.complete are.sound packet is (are.complete packet is differs);
  }

-- ---- whatever the two versions are

pub ok_weaker : {X E : Type 0} (P Q : X → Type 0) → ((x : X) → P x → Q x) → (r : Result X E) → IfOk r P → IfOk r Q
ok_weaker P Q gives (Ok x) h = gives x h
ok_weaker P Q gives (Err e) h = h

-- the last group is taken off, and the one that it is joined to takes its place
pub shortened : (view items short : List Group) (n : ℕ) (whole joined : Group) → view ≡ items → n ≡ length view → short ≡ take (n - 1) items →
    AlwaysReplaces (view ++ whole ∷ []) (take (length view - 1) view ++ joined ∷ []) → AlwaysReplaces (items ++ whole ∷ []) (short ++ joined ∷ [])
shortened view items short n whole joined same long cut replaces =
    let front : short ≡ take (length view - 1) view = cut ∙ ap (λ k. take (k - 1) items) long ∙ ap (take (length view - 1)) (sym same) in
    subst (λ gs. AlwaysReplaces (items ++ whole ∷ []) (gs ++ joined ∷ [])) (sym front) (subst (λ gs. AlwaysReplaces (gs ++ whole ∷ []) (take (length view - 1) view ++ joined ∷ [])) same replaces)

pub then_always : (a b c : List Group) → AlwaysReplaces a b → AlwaysReplaces b c → AlwaysReplaces a c
then_always a b c first second = λ sameness before after. then sameness before after a b c (first sameness before after) (second sameness before after)

-- sorted, and then replaced
pub sorted_then : (old sorted view new : List Group) → IsPermutation old sorted → view ≡ sorted → AlwaysReplaces view new → AlwaysReplaces old new
sorted_then old sorted view new moved same replaces =
    λ sameness before after. then sameness before after old sorted new (reordered sameness before after old sorted moved) (subst (λ gs. Replaces sameness before after gs new) same (replaces sameness before after))

pub sorted_then_at : (rules : List Rule) (interfaces all : List InterfaceSet) (old sorted view new : List Group) → AreAll rules interfaces → all ≡ interfaces → IsPermutation old sorted → view ≡ sorted → ReplacesIfAll all view new → ReplacesAt rules old new
sorted_then_at rules interfaces all old sorted view new are same_all moved same replaces =
    λ sameness before after of.
    then sameness before after old sorted new (reordered sameness before after old sorted moved)
    (subst (λ gs. Replaces sameness before after gs new) same (replaces sameness before after (subst (λ is. AreAll (rules_of before after) is) (sym same_all) (subst (λ rs. AreAll rs interfaces) of are))))
