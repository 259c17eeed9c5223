-- Items in a row: what is read is what is good, and a fault is the first.
use Rattle.std.proofs.Common.{◌≡◌, ℕ, zero, suc, ◌+◌, ◌≤◌, List, [], ◌∷◌, ◌++◌, false, Ok, Err, refl, length, take, drop, ◌∙◌, ap, sym, subst, arith, append_assoc, length-append}
use Rattle.std.proofs.lemmas.List.{take-append-drop, append-nil}
use Rattle.std.proofs.Math.Seq.{drop-append_seam}
use Rattle.prt_addr.specs.Word.{Word}
use Rattle.prt_refusals.specs.declared.refusal.Refusal.{Refusal}
use Rattle.prt_command.specs.Grammar.{start, IsItem, AreItems, none, more, EachOnce, IsFault, Good, FirstFault, put_all}
use Rattle.prt_command.specs.LineKinds.{LineKind}
use Rattle.prt_command.specs.Items.{slot_of, has, no_items, put}
use Rattle.prt_command.specs.Scan.{Scanned, item_or_fault, items_after, items_of}
use Rattle.prt_command.specs.Steps.{and_items}
use Rattle.prt_command.specs.declared.item.Item.{Item}
use Rattle.prt_command.specs.declared.item.Items.{Items}
use Rattle.prt_command.specs.declared.item.Slot.{Slot}
use Rattle.prt_command.specs.declared.item.Slot.TheVariants.{Destination, Via, Dev, Table, Proto, Scope, Src, Metric, Range, Tables, OfKind, Address, Source, Iif, Mark, Inverted, From, To, Fwmark, Priority, Action, Suppress}
use Rattle.prt_command.proofs.Results.{ok_result, ok_inj, err_inj}
use Rattle.prt_command.proofs.ItemLaws.{Read, ok_read, is_read, is_fault, read_back, fault_back}

-- What was read of these words is good.
pub record Found (line : LineKind) (given : Items) (ws : List Word) (items : Items) : Type 0 where
  pub taken : List Item
  pub good : Good line given ws taken
  pub is : items ≡ put_all taken given

nothing : (line : LineKind) (given items : Items) → ok_result given ≡ Ok items → Found line given [] items
nothing line given items h = record { taken = []; good = record { spelled = none; once = tt }; is = sym (ok_inj given items h) }

-- an item, and then what the words after it say
good_step : (line : LineKind) (given items : Items) (w : Word) (ws : List Word) → ((n : ℕ) (k : Items) → items_after line n k ws ≡ Ok items → n ≤ length ws → Found line k (drop n ws) items) → (r : Scanned) → item_or_fault line given w ws ≡ r → and_items line given r ws ≡ Ok items → Found line given (w ∷ ws) items
good_step line given items w ws rec (Err e) read h = absurd cc
good_step line given items w ws rec (Ok t) read h =
    let i = is_read line given w ws t read in
    let d = rec t.1 (put t.0 given) h i.within in
    subst (λ u. Found line given (w ∷ u) items) (take-append-drop t.1 ws) (record {
      taken = t.0 ∷ d.taken;
      good = record { spelled = more w (take t.1 ws) (drop t.1 ws) t.0 d.taken i.item d.good.spelled; once = (i.fresh, d.good.once) };
      is = d.is;
    })

pub good_of_items : (line : LineKind) (ws : List Word) (n : ℕ) (given items : Items) → items_after line n given ws ≡ Ok items → n ≤ length ws → Found line given (drop n ws) items
good_of_items line [] zero given items h l = nothing line given items h
good_of_items line [] (suc n) given items h l = absurd (omega (arith, l))
good_of_items line (w ∷ ws) zero given items h l = good_step line given items w ws (λ n k. good_of_items line ws n k items) (item_or_fault line given w ws) refl h
good_of_items line (w ∷ ws) (suc n) given items h l = good_of_items line ws n given items h (omega (arith, l))

-- the words of an item are skipped
own_words_skipped : (line : LineKind) (given : Items) (own ws : List Word) → items_after line (length own) given (own ++ ws) ≡ items_of line given ws
own_words_skipped line given [] ws = refl
own_words_skipped line given (w ∷ own) ws = own_words_skipped line given own ws

-- after good words the reading goes on from their items
pub goes_on : (line : LineKind) (ws xs : List Word) (taken : List Item) (given : Items) → AreItems line ws taken → EachOnce given taken → items_of line given (ws ++ xs) ≡ items_of line (put_all taken given) xs
goes_on line ws xs taken given none once = refl
goes_on line ws xs taken given (more w own rest item others i are) once =
    ap (λ u. and_items line given (item_or_fault line given w u) u) (append_assoc own rest xs)
    ∙ ap (λ r. and_items line given r (own ++ (rest ++ xs))) (read_back line given start w own (rest ++ xs) item i once.0)
    ∙ own_words_skipped line (put item given) own (rest ++ xs)
    ∙ goes_on line rest xs others (put item given) are once.1

pub only : (line : LineKind) (given : Items) (ws : List Word) (taken : List Item) → Good line given ws taken → items_of line given ws ≡ Ok (put_all taken given)
only line given ws taken good = ap (items_of line given) (sym (append-nil ws)) ∙ goes_on line ws [] taken given good.spelled good.once

fault_step : (line : LineKind) (given : Items) (e : Refusal) (w : Word) (ws : List Word) → ((n : ℕ) (k : Items) → items_after line n k ws ≡ Err e → n ≤ length ws → FirstFault line k (drop n ws) e) → (r : Scanned) → item_or_fault line given w ws ≡ r → and_items line given r ws ≡ Err e → FirstFault line given (w ∷ ws) e
fault_step line given e w ws rec (Err f) read h = record { front = []; taken = []; w = w; rest = ws; splits = refl; good = record { spelled = none; once = tt }; first = subst (λ x. IsFault line given start w ws x) (err_inj {X = Items} f e h) (is_fault line given w ws f read) }
fault_step line given e w ws rec (Ok t) read h =
    let i = is_read line given w ws t read in
    let d = rec t.1 (put t.0 given) h i.within in
    record {
      front = w ∷ (take t.1 ws ++ d.front);
      taken = t.0 ∷ d.taken;
      w = d.w;
      rest = d.rest;
      splits = ap (λ x. w ∷ x) (sym (take-append-drop t.1 ws) ∙ ap (λ x. take t.1 ws ++ x) d.splits ∙ sym (append_assoc (take t.1 ws) d.front (d.w ∷ d.rest)));
      good = record { spelled = more w (take t.1 ws) d.front t.0 d.taken i.item d.good.spelled; once = (i.fresh, d.good.once) };
      first = d.first;
    }

pub fault : (line : LineKind) (ws : List Word) (n : ℕ) (given : Items) (e : Refusal) → items_after line n given ws ≡ Err e → n ≤ length ws → FirstFault line given (drop n ws) e
fault line [] zero given e h l = absurd cc
fault line [] (suc n) given e h l = absurd (omega (arith, l))
fault line (w ∷ ws) zero given e h l = fault_step line given e w ws (λ n k. fault line ws n k e) (item_or_fault line given w ws) refl h
fault line (w ∷ ws) (suc n) given e h l = fault line ws n given e h (omega (arith, l))

pub fault_only : (line : LineKind) (given : Items) (ws : List Word) (e : Refusal) → FirstFault line given ws e → items_of line given ws ≡ Err e
fault_only line given ws e d =
    ap (items_of line given) d.splits ∙ goes_on line d.front (d.w ∷ d.rest) d.taken given d.good.spelled d.good.once
    ∙ ap (λ r. and_items line (put_all d.taken given) r d.rest) (fault_back line (put_all d.taken given) start d.w d.rest e d.first)

-- ---- no good prefix is longer

abbrev pub tail_of : List Word → List Word
tail_of [] = []
tail_of (w ∷ ws) = ws

abbrev pub head_or : Word → List Word → Word
head_or d [] = d
head_or d (w ∷ ws) = w

no_read : (r : Scanned) (e : Refusal) (t : Read) → r ≡ Err e → r ≡ ok_read t → ⊥
no_read r e t a b = let c : Err e ≡ ok_read t = sym a ∙ b in cc

-- the item at the front of a longer text
read_in : (line : LineKind) (given : Items) (item : Item) (w v : Word) (own rest after all : List Word) → IsItem line start w own item → has (slot_of item) given ≡ false → v ∷ all ≡ (w ∷ (own ++ rest)) ++ after → item_or_fault line given v all ≡ ok_read (item, length own)
read_in line given item w v own rest after all i fresh e =
    let t : all ≡ own ++ (rest ++ after) = ap tail_of e ∙ append_assoc own rest after in
    let h : v ≡ w = ap (head_or v) e in
    ap (λ x. item_or_fault line given x all) h ∙ ap (item_or_fault line given w) t ∙ read_back line given start w own (rest ++ after) item i fresh

same_rest : (a b x y : List Word) → a ++ x ≡ b ++ y → length a ≡ length b → x ≡ y
same_rest a b x y e l = sym (drop-append_seam a x) ∙ ap (drop (length a)) e ∙ ap (λ n. drop n (b ++ y)) l ∙ drop-append_seam b y

pub not_longer : (line : LineKind) (given : Items) (front ahead : List Word) (taken others : List Item) (w : Word) (rest after : List Word) (e : Refusal) → AreItems line front taken → EachOnce given taken → item_or_fault line (put_all taken given) w rest ≡ Err e → AreItems line ahead others → EachOnce given others → front ++ (w ∷ rest) ≡ ahead ++ after → length ahead ≤ length front
not_longer line given front ahead taken others w rest after e a once first none once2 s = omega arith
not_longer line given front ahead taken others w rest after e none once first (more w2 own2 rest2 item2 others2 i2 b) once2 s =
    absurd (no_read (item_or_fault line given w rest) e (item2, length own2) first (read_in line given item2 w2 w own2 rest2 after rest i2 once2.0 s))
not_longer line given front ahead taken others w rest after e (more w1 own1 rest1 item1 others1 i1 a) once first (more w2 own2 rest2 item2 others2 i2 b) once2 s =
    let all : List Word = (own1 ++ rest1) ++ (w ∷ rest) in
    let r1 : item_or_fault line given w1 all ≡ ok_read (item1, length own1) = read_in line given item1 w1 w1 own1 rest1 (w ∷ rest) all i1 once.0 refl in
    let r2 : item_or_fault line given w1 all ≡ ok_read (item2, length own2) = read_in line given item2 w2 w1 own2 rest2 after all i2 once2.0 s in
    let same = ok_inj {X = Read} (item1, length own1) (item2, length own2) (sym r1 ∙ r2) in
    let len : length own1 ≡ length own2 = ap (λ (x : Read). x.1) same in
    let item : item1 ≡ item2 = ap (λ (x : Read). x.0) same in
    let s2 : own1 ++ (rest1 ++ (w ∷ rest)) ≡ own2 ++ (rest2 ++ after) = sym (append_assoc own1 rest1 (w ∷ rest)) ∙ ap tail_of s ∙ append_assoc own2 rest2 after in
    let once3 : EachOnce (put item1 given) others2 = subst (λ (x : Item). EachOnce (put x given) others2) (sym item) once2.1 in
    let i : length rest2 ≤ length rest1 = not_longer line (put item1 given) rest1 rest2 others1 others2 w rest after e a once.1 first b once3 (same_rest own1 own2 _ _ s2 len) in
    let l1 : length (own1 ++ rest1) ≡ length own1 + length rest1 = length-append own1 rest1 in
    let l2 : length (own2 ++ rest2) ≡ length own2 + length rest2 = length-append own2 rest2 in
    omega (arith, i, l1, l2, len)

pub longest : (line : LineKind) (given : Items) (ws ahead after : List Word) (taken : List Item) (e : Refusal) → (first : FirstFault line given ws e) → Good line given ahead taken → ws ≡ ahead ++ after → length ahead ≤ length first.front
longest line given ws ahead after taken e d good s = not_longer line given d.front ahead d.taken taken d.w d.rest after e d.good.spelled d.good.once (fault_back line (put_all d.taken given) start d.w d.rest e d.first) good.spelled good.once (sym d.splits ∙ s)

-- ---- an item is only one item

none_given : (slot : Slot) → has slot no_items ≡ false
none_given Destination = refl
none_given Via = refl
none_given Dev = refl
none_given Table = refl
none_given Proto = refl
none_given Scope = refl
none_given Src = refl
none_given Metric = refl
none_given Range = refl
none_given Tables = refl
none_given OfKind = refl
none_given Address = refl
none_given Source = refl
none_given Iif = refl
none_given Mark = refl
none_given Inverted = refl
none_given From = refl
none_given To = refl
none_given Fwmark = refl
none_given Priority = refl
none_given Action = refl
none_given Suppress = refl

-- Two items at the front of the same words are one, and the same words are left.
pub record IsOne (item1 item2 : Item) (rest1 rest2 : List Word) : Type 0 where
  pub item : item2 ≡ item1
  pub rest : rest2 ≡ rest1

pub one_item : (line : LineKind) (w1 w2 : Word) (own1 own2 rest1 rest2 : List Word) (item1 item2 : Item) → IsItem line start w1 own1 item1 → IsItem line start w2 own2 item2 → w2 ∷ (own2 ++ rest2) ≡ w1 ∷ (own1 ++ rest1) → IsOne item1 item2 rest1 rest2
one_item line w1 w2 own1 own2 rest1 rest2 item1 item2 i1 i2 e =
    let t : own2 ++ rest2 ≡ own1 ++ rest1 = ap tail_of e in
    let h : w2 ≡ w1 = ap (head_or w1) e in
    let r1 : item_or_fault line no_items w1 (own1 ++ rest1) ≡ ok_read (item1, length own1) = read_back line no_items start w1 own1 rest1 item1 i1 (none_given (slot_of item1)) in
    let r2 : item_or_fault line no_items w2 (own2 ++ rest2) ≡ ok_read (item2, length own2) = read_back line no_items start w2 own2 rest2 item2 i2 (none_given (slot_of item2)) in
    let same = ok_inj {X = Read} (item2, length own2) (item1, length own1) (sym r2 ∙ ap (λ w. item_or_fault line no_items w (own2 ++ rest2)) h ∙ ap (item_or_fault line no_items w1) t ∙ r1) in
    record { item = ap (λ (x : Read). x.0) same; rest = same_rest own2 own1 rest2 rest1 t (ap (λ (x : Read). x.1) same) }
