-- The class of a packet.
use Rattle.std.proofs.Common.{◌≡◌, ◌⊎◌, inl, inr, ℕ, zero, suc, ◌<◌, ◌≤◌, Bool, true, false, not, ◌&&◌, cond, List, [], ◌∷◌, ◌++◌, ◌+◌, get_or, take, length, length-append, Some, None, refl, sym, ap, ◌∙◌, subst, arith, ⊎_elim, eq-eqb, map}
use Rattle.std.specs.Prelude.{filter, option_map}
use Rattle.std.specs.List.{slice_get, Contains, AllByRecursion as Each}
use Rattle.std.proofs.lemmas.Bool.{cases_Bool, cases_lt}
use Rattle.prt_refusals.specs.declared.refusal.Refusal.{Refusal}
use Rattle.prt_refusals.specs.declared.refusal.Refusal.TheVariants.{Full, NoMemory}
use Rattle.prt_partition.specs.Boxes.{IsUndivided}
use Rattle.std.proofs.lemmas.List.{take_more}
use Rattle.std.proofs.lemmas.Option.{slice_get-map, slice_get_within}
use Rattle.prt_addr.specs.Prefix.{contains}
use Rattle.prt_addr.proofs.Each.{each_implies}
use Rattle.prt_rule.specs.Rule.{matches, takes_interface, takes_mark}
use Rattle.prt_rule.specs.declared.packet.Packet.{Packet}
use Rattle.prt_rule.specs.declared.rule.Rule.{Rule}
use Rattle.prt_version.specs.State.{State}
use Rattle.prt_partition.specs.Classes.{AreClasses, takes_apart}
use Rattle.prt_partition.specs.Cuts.{to}
use Rattle.prt_partition.specs.Sameness.{outcome_of}
use Rattle.prt_partition.proofs.Alike.{same_select}
use Rattle.prt_partition.proofs.Between.{each_refl}
use Rattle.prt_partition.proofs.Joined.{reorder, same_but_destination}
use Rattle.prt_partition.proofs.Starts.{IsIn, contains_in, each_in, in_contains, in_filter, in_left, in_right}
use Rattle.prt_fib.specs.Fib.{HasTooMany, Table, outcome_to}
use Rattle.prt_fib.specs.Policy.{AreNumberedOff, AreTablesOf, AreTakenAlike, FindsClass, IsAlike, IsUnfit, IsWhole, class_of, is_left, is_taken}
use Rattle.prt_fib.specs.declared.class_tree.Class.{Class}
use Rattle.prt_fib.proofs.Linked.{slice_get_left, slice_get_seam}
use Rattle.prt_fib.specs.declared.class_tree.ClassTree.{ClassTree}
use Rattle.prt_fib.specs.declared.class_tree.ClassTree.TheVariants as tree

-- ---- the tree

-- no rule is left
pub finds_first : (classes : List Class) (first : Class) → Contains classes first → FindsClass [] classes (tree.Class first.number)
finds_first classes first h packet class one alike = record { class = first; one = h; its = refl; alike = tt }

pub finds_only : (rules : List Rule) (only : Class) → FindsClass rules (only ∷ []) (tree.Class only.number)
finds_only rules only packet class one alike =
    let same : class ≡ only = alone (contains_in class (only ∷ []) one) in
    record { class = only; one = in_contains only (only ∷ []) (inl refl); its = refl; alike = subst (λ (c : Class). AreTakenAlike rules packet c.packet) same alike }
  where
    alone : {x : Class} → IsIn x (only ∷ []) → x ≡ only
    alone (inl is) = is
    alone (inr none) = absurd none

-- the rule takes all of the classes, or none
pub finds_by_rest : (rule : Rule) (rules : List Rule) (classes : List Class) (b : Bool) (by : ClassTree) → Each (λ (class : Class). takes_apart rule class.packet ≡ b) classes → FindsClass rules classes by → FindsClass (rule ∷ rules) classes by
finds_by_rest rule rules classes b by all finds packet class one alike =
    let found = finds packet class one alike.1 in
    let here : takes_apart rule class.packet ≡ b = each_in (λ (c : Class). takes_apart rule c.packet ≡ b) class classes all (contains_in class classes one) in
    let there : takes_apart rule found.class.packet ≡ b = each_in (λ (c : Class). takes_apart rule c.packet ≡ b) found.class classes all (contains_in found.class classes found.one) in
    record { class = found.class; one = found.one; its = found.its; alike = (alike.0 ∙ here ∙ sym there, found.alike) }

none_passes_by : {X : Type 0} (p : X → Bool) (x : X) (xs : List X) (b : Bool) → p x ≡ b → length (cond b (x ∷ filter p xs) (filter p xs)) ≡ 0 → (p x ≡ false) × (length (filter p xs) ≡ 0)
none_passes_by p x xs true e none = absurd (omega arith)
none_passes_by p x xs false e none = (e, none)

none_passes : {X : Type 0} (p : X → Bool) (xs : List X) → length (filter p xs) ≡ 0 → Each (λ x. p x ≡ false) xs
none_passes p [] none = tt
none_passes p (x ∷ xs) none = let parts = none_passes_by p x xs (p x) refl none in (parts.0, none_passes p xs parts.1)

not_false : (b : Bool) → not b ≡ false → b ≡ true
not_false true e = refl
not_false false e = absurd cc

pub all_taken : (rule : Rule) (classes : List Class) → length (filter (is_left rule) classes) ≡ 0 → Each (λ (class : Class). takes_apart rule class.packet ≡ true) classes
all_taken rule classes none =
    each_implies (λ class. is_left rule class ≡ false) (λ (class : Class). takes_apart rule class.packet ≡ true) (λ class e. not_false (takes_apart rule class.packet) e) classes (none_passes (is_left rule) classes none)

pub all_left : (rule : Rule) (classes : List Class) → length (filter (is_taken rule) classes) ≡ 0 → Each (λ (class : Class). takes_apart rule class.packet ≡ false) classes
all_left rule classes none = none_passes (is_taken rule) classes none

out_of_by : {X : Type 0} (p : X → Bool) (x y : X) (ys : List X) (b : Bool) → p y ≡ b → (IsIn x (filter p ys) → IsIn x ys × (p x ≡ true)) → IsIn x (cond b (y ∷ filter p ys) (filter p ys)) → IsIn x (y ∷ ys) × (p x ≡ true)
out_of_by p x y ys true e rest (inl is) = (inl is, ap p is ∙ e)
out_of_by p x y ys true e rest (inr h) = let found = rest h in (inr found.0, found.1)
out_of_by p x y ys false e rest h = let found = rest h in (inr found.0, found.1)

out_of : {X : Type 0} (p : X → Bool) (x : X) (xs : List X) → IsIn x (filter p xs) → IsIn x xs × (p x ≡ true)
out_of p x [] h = absurd h
out_of p x (y ∷ ys) h = out_of_by p x y ys (p y) refl (out_of p x ys) h

not_true : (b : Bool) → not b ≡ true → b ≡ false
not_true true e = absurd cc
not_true false e = refl

-- the rule divides the classes
pub finds_by_split : (rule : Rule) (rules : List Rule) (classes : List Class) (taken left : ClassTree) → FindsClass rules (filter (is_taken rule) classes) taken → FindsClass rules (filter (is_left rule) classes) left →
    (packet : Packet) (class : Class) → Contains classes class → AreTakenAlike (rule ∷ rules) packet class.packet → IsAlike (rule ∷ rules) classes packet (cond (takes_apart rule packet) (class_of taken packet) (class_of left packet))
finds_by_split rule rules classes taken left by_taken by_left packet class one alike =
    ⊎_elim
    (λ (e : takes_apart rule packet ≡ true).
    let of : takes_apart rule class.packet ≡ true = sym alike.0 ∙ e in
    let found = by_taken packet class (in_contains class (filter (is_taken rule) classes) (in_filter (is_taken rule) class classes (contains_in class classes one) of)) alike.1 in
    let is = out_of (is_taken rule) found.class classes (contains_in found.class (filter (is_taken rule) classes) found.one) in
    record { class = found.class; one = in_contains found.class classes is.0; its = found.its ∙ sym (ap (λ b. cond b (class_of taken packet) (class_of left packet)) e); alike = (e ∙ sym is.1, found.alike) })
    (λ (e : takes_apart rule packet ≡ false).
    let of : takes_apart rule class.packet ≡ false = sym alike.0 ∙ e in
    let found = by_left packet class (in_contains class (filter (is_left rule) classes) (in_filter (is_left rule) class classes (contains_in class classes one) (ap not of))) alike.1 in
    let is = out_of (is_left rule) found.class classes (contains_in found.class (filter (is_left rule) classes) found.one) in
    record { class = found.class; one = in_contains found.class classes is.0; its = found.its ∙ sym (ap (λ b. cond b (class_of taken packet) (class_of left packet)) e); alike = (e ∙ sym (not_true (takes_apart rule found.class.packet) is.1), found.alike) })
    (cases_Bool (takes_apart rule packet))

-- ---- classes of packets

flipped : (inverted a b : Bool) → cond inverted (not a) a ≡ cond inverted (not b) b → a ≡ b
flipped true true true e = refl
flipped true false false e = refl
flipped true true false e = absurd cc
flipped true false true e = absurd cc
flipped false a b e = e

-- what the rule takes, if the destination is one of its own
taken_there : (rule : Rule) (packet : Packet) → (contains rule.from packet.src && contains rule.to (record { 0 = rule.to.bits }) && takes_interface rule.iif packet.iif && takes_mark rule.mark packet.mark) ≡ takes_apart rule packet
taken_there rule packet =
    reorder (contains rule.from packet.src) (contains rule.to (record { 0 = rule.to.bits })) (takes_interface rule.iif packet.iif) (takes_mark rule.mark packet.mark)
    ∙ ap (λ b. b && takes_apart rule packet) (eq-eqb _ _ refl)

same_apart : (rule : Rule) (packet other : Packet) → matches rule (to packet rule.to.bits) ≡ matches rule (to other rule.to.bits) → takes_apart rule packet ≡ takes_apart rule other
same_apart rule packet other e =
    sym (taken_there rule packet)
    ∙ flipped rule.inverted (contains rule.from packet.src && contains rule.to (record { 0 = rule.to.bits }) && takes_interface rule.iif packet.iif && takes_mark rule.mark packet.mark)
    (contains rule.from other.src && contains rule.to (record { 0 = rule.to.bits }) && takes_interface rule.iif other.iif && takes_mark rule.mark other.mark) e
    ∙ taken_there rule other

all_apart : (rules : List Rule) (packet other : Packet) → ((addr : ℕ) → Each (λ (rule : Rule). matches rule (to packet addr) ≡ matches rule (to other addr)) rules) → AreTakenAlike rules packet other
all_apart [] packet other same = tt
all_apart (rule ∷ rules) packet other same = (same_apart rule packet other (same rule.to.bits).0, all_apart rules packet other (λ addr. (same addr).1))

-- packets that all rules take alike go the same way
pub same_way : (state : State) (packet other : Packet) (addr : ℕ) → AreTakenAlike state.rules packet other → outcome_to state packet addr ≡ outcome_to state other addr
same_way state packet other addr alike =
    ap outcome_of
    (same_select state (to packet addr) (to other addr) (record {
      rules = each_implies (λ (rule : Rule). takes_apart rule packet ≡ takes_apart rule other) (λ (rule : Rule). matches rule (to packet addr) ≡ matches rule (to other addr))
          (λ rule e. same_but_destination rule packet other addr e) state.rules alike;
      routes = each_refl state.routes (to packet addr);
    }))

-- ---- all tables

some_at : {X : Type 0} (xs : List X) (k : ℕ) → k < length xs → (x : X) × (slice_get xs k ≡ Some x)
some_at [] k lt = absurd (omega arith)
some_at (x ∷ xs) zero lt = (x, refl)
some_at (x ∷ xs) (suc k) lt = some_at xs k (omega arith)

-- the table at the place of a packet
table_at : (state : State) (packets : List Packet) (tables : List Table) (k : ℕ) (packet : Packet) → AreTablesOf state packets tables → slice_get packets k ≡ Some packet → (table : Table) × (slice_get tables k ≡ Some table) × (packet ≡ table.packet)
table_at state packets tables k packet of at =
    let size = of.size in
    let within : k < length packets = slice_get_within packets k packet at in
    let table = some_at tables k (omega arith) in
    let its = of.each k table.0 table.1 in
    let same : Some packet ≡ Some table.0.packet = sym at ∙ its.1 in
    (table.0, table.1, cc)

pub whole_new : (state : State) (packets : List Packet) (classes : List Class) (tables : List Table) (by : ClassTree) → AreClasses state.rules packets → AreNumberedOff packets classes → FindsClass state.rules classes by → AreTablesOf state packets tables →
    IsWhole state tables by
whole_new state packets classes tables by are numbered finds of = record {
  of = λ k table at. (of.each k table at).0;
  finds = λ packet is.
      let like = are packet is in
      let class = numbered.all like.0 like.1 in
      let alike : AreTakenAlike state.rules packet like.0 = all_apart state.rules packet like.0 like.2 in
      let found = finds packet class.0 class.1 (subst (AreTakenAlike state.rules packet) (sym class.2) alike) in
      let here : slice_get packets (class_of by packet) ≡ Some found.class.packet = ap (slice_get packets) (sym found.its) ∙ numbered.numbers found.class found.one in
      let table = table_at state packets tables (class_of by packet) found.class.packet of here in
      (table.0, table.1, subst (AreTakenAlike state.rules packet) table.2 found.alike);
}

pub whole_after : (state next : State) (tables after : List Table) (by : ClassTree) → IsWhole state tables by → next.rules ≡ state.rules → AreTablesOf next (map (λ (table : Table). table.packet) tables) after → IsWhole next after by
whole_after state next tables after by whole rules of = record {
  of = λ k table at. (of.each k table at).0;
  finds = λ packet is.
      let before = whole.finds packet is in
      let here : slice_get (map (λ (table : Table). table.packet) tables) (class_of by packet) ≡ Some before.0.packet =
      slice_get-map (λ (table : Table). table.packet) tables (class_of by packet) ∙ ap (option_map (λ (table : Table). table.packet)) before.1 in
      let table = table_at next (map (λ (table : Table). table.packet) tables) after (class_of by packet) before.0.packet of here in
      (table.0, table.1, subst (λ rs. AreTakenAlike rs packet table.0.packet) (sym rules) (subst (AreTakenAlike state.rules packet) table.2 before.2));
}

-- ---- one more

pub taken_more : {X : Type 0} (xs : List X) (i : ℕ) (x : X) → i < length xs → x ≡ get_or xs i x → take (i + 1) xs ≡ take i xs ++ x ∷ []
taken_more xs i x lt at = take_more xs i x lt ∙ ap (λ y. take i xs ++ y ∷ []) (sym at)

in_append : {X : Type 0} (x : X) (xs : List X) (y : X) → IsIn x (xs ++ y ∷ []) → IsIn x xs ⊎ (x ≡ y)
in_append x [] y (inl is) = inr is
in_append x [] y (inr none) = absurd none
in_append x (z ∷ zs) y (inl is) = inl (inl is)
in_append x (z ∷ zs) y (inr h) = ⊎_elim (λ (there : IsIn x zs). inl (inr there)) (λ (is : x ≡ y). inr is) (in_append x zs y h)

pub numbered_off_none : AreNumberedOff [] []
numbered_off_none = record { numbers = λ class h. absurd (contains_in class [] h); all = λ packet h. absurd (contains_in packet [] h) }

pub numbered_off_more : (packets : List Packet) (classes : List Class) (packet : Packet) (class : Class) → AreNumberedOff packets classes → class.number ≡ length packets → class.packet ≡ packet → AreNumberedOff (packets ++ packet ∷ []) (classes ++ class ∷ [])
numbered_off_more packets classes packet class are number of = record {
  numbers = λ one h.
      ⊎_elim
      (λ (before : IsIn one classes).
      let at = are.numbers one (in_contains one classes before) in
      slice_get_left packets (packet ∷ []) one.number (slice_get_within packets one.number one.packet at) ∙ at)
      (λ (is : one ≡ class).
      ap (λ (c : Class). slice_get (packets ++ packet ∷ []) c.number) is ∙ ap (slice_get (packets ++ packet ∷ [])) number ∙ slice_get_seam packets packet ∙ ap (λ p. Some p) (sym of) ∙ ap (λ (c : Class). Some c.packet) (sym is))
      (in_append one classes class (contains_in one (classes ++ class ∷ []) h));
  all = λ one h.
      ⊎_elim
      (λ (before : IsIn one packets).
      let found = are.all one (in_contains one packets before) in
      (found.0, in_contains found.0 (classes ++ class ∷ []) (in_left found.0 classes (class ∷ []) (contains_in found.0 classes found.1)), found.2))
      (λ (is : one ≡ packet). (class, in_contains class (classes ++ class ∷ []) (in_right class classes (class ∷ []) (inl refl)), of ∙ sym is))
      (in_append one packets packet (contains_in one (packets ++ packet ∷ []) h));
}

pub tables_none : (state : State) → AreTablesOf state [] []
tables_none state = record { size = refl; each = λ k table at. absurd (let f : None ≡ Some table = at in cc) }

pub tables_more : (state : State) (packets : List Packet) (tables : List Table) (packet : Packet) (table : Table) → AreTablesOf state packets tables → table.state ≡ state → table.packet ≡ packet → AreTablesOf state (packets ++ packet ∷ []) (tables ++ table ∷ [])
tables_more state packets tables packet table are of its =
    let size = are.size in
    let more : length (tables ++ table ∷ []) ≡ length tables + 1 = length-append tables (table ∷ []) in
    let more_packets : length (packets ++ packet ∷ []) ≡ length packets + 1 = length-append packets (packet ∷ []) in
    record {
      size = omega arith;
      each = λ k one at.
          ⊎_elim
          (λ (before : k < length tables).
          let old = are.each k one (sym (slice_get_left tables (table ∷ []) k before) ∙ at) in
          (old.0, slice_get_left packets (packet ∷ []) k (omega arith) ∙ old.1))
          (λ (from : length tables ≤ k).
          let within : k < length (tables ++ table ∷ []) = slice_get_within (tables ++ table ∷ []) k one at in
          let here : length tables ≡ k = omega arith in
          let there : k ≡ length packets = omega arith in
          let same : Some table ≡ Some one = sym (slice_get_seam tables table) ∙ ap (slice_get (tables ++ table ∷ [])) here ∙ at in
          let own : table ≡ one = cc in (
            ap (λ (t : Table). t.state) (sym own) ∙ of,
            ap (slice_get (packets ++ packet ∷ [])) there ∙ slice_get_seam packets packet ∙ ap (λ p. Some p) (sym its) ∙ ap (λ (t : Table). Some t.packet) own,
          ))
          (cases_lt k (length tables));
    }

-- some packet has a class
pub some_class : (rules : List Rule) (packets : List Packet) (classes : List Class) → AreClasses rules packets → AreNumberedOff packets classes → 0 < length classes
some_class rules packets classes are numbered =
    let none : Packet = record { dst = record { 0 = 0 }; src = record { 0 = 0 }; iif = []; mark = 0 } in
    let like = are none (record { dst = omega arith; src = omega arith; mark = omega arith }) in
    let class = numbered.all like.0 like.1 in
    let at = class.1 in
    some_in class.0 classes (contains_in class.0 classes class.1)
  where
    some_in : (class : Class) (classes : List Class) → IsIn class classes → 0 < length classes
    some_in class [] h = absurd h
    some_in class (c ∷ cs) h = omega arith

-- ---- why there are none

pub unfit_memory : (state : State) (reason : Refusal) → reason ≡ NoMemory → IsUnfit state reason
unfit_memory state reason is = inl is

pub unfit_boxes : (state : State) (reason : Refusal) → IsUndivided state.rules reason → IsUnfit state reason
unfit_boxes state reason (inl none) = inl none
unfit_boxes state reason (inr full) = inr (full.0, inl full.1)

pub unfit_outcomes : (state : State) (packet : Packet) (reason : Refusal) → ((reason ≡ Full) × HasTooMany state packet) ⊎ (reason ≡ NoMemory) → IsUnfit state reason
unfit_outcomes state packet reason (inl full) = inr (full.0, inr (inr (packet, full.1)))
unfit_outcomes state packet reason (inr none) = inl none
