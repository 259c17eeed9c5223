-- The rules of one priority lie side by side.
use Rattle.std.proofs.Common.{◌≡◌, ℕ, zero, suc, ◌+◌, ◌-◌, ◌≤◌, Bool, true, false, List, [], ◌∷◌, ◌++◌, length, take, drop, sym, ap, ◌∙◌, subst, arith}
use Rattle.std.specs.Prelude.{filter, ◌==◌, nat_lt, nat_le}
use Rattle.std.specs.List.{AllByRecursion as Each}
use Rattle.std.specs.List.Sorted.{IsNonDecreasingBy, IsPartitionPoint, IsPartitionedBy}
use Rattle.std.proofs.lemmas.Bool.Decides.{nat_tests}
use Rattle.std.proofs.lemmas.List.{append-nil, get_or-drop, get_or-take, length-drop, length-take-le, take-append-drop, take_rest}
use Rattle.std.proofs.lemmas.List.Elements.{filter-append, recursion_from_All}
use Rattle.std.proofs.lemmas.List.Sorted.{IsNonDecreasingBy-drop, IsPartitionedBy-leb, IsPartitionedBy-ltb}
use Rattle.prt_addr.specs.Rising.{IsRising}
use Rattle.prt_rule.specs.Rule.{is_before}
use Rattle.prt_rule.specs.declared.rule.Rule.{Rule}
use Rattle.prt_version.proofs.SortedRows.{rising_numbers}
use Rattle.prt_diff.specs.Rules.{rules_at}
use Rattle.prt_diff.proofs.Members.{all_pass, each_both, none_pass}

-- ---- side by side

abbrev pub priority_of : Rule → ℕ
priority_of rule = rule.priority

pub no_lower : (a b : Rule) → is_before a b ≡ true → a.priority ≤ b.priority
no_lower a b ahead = grind (arith, nat_tests, ahead)

priorities_rise : (rules : List Rule) → IsRising is_before rules → IsNonDecreasingBy priority_of rules
priorities_rise rules rises = rising_numbers is_before priority_of no_lower rules rises

pub lower_parted : (rules : List Rule) (priority : ℕ) → IsRising is_before rules → IsPartitionedBy (λ (rule : Rule). nat_lt rule.priority priority) rules
lower_parted rules priority rises = IsPartitionedBy-ltb priority_of rules priority (priorities_rise rules rises)

pub rest_parted : (rules : List Rule) (start priority : ℕ) → IsRising is_before rules → IsPartitionedBy (λ (rule : Rule). nat_le rule.priority priority) (take (length rules - start) (drop start rules))
rest_parted rules start priority rises =
    subst (IsPartitionedBy (λ (rule : Rule). nat_le rule.priority priority)) (sym (take_rest rules start))
    (IsPartitionedBy-leb priority_of (drop start rules) priority (IsNonDecreasingBy-drop priority_of start rules (priorities_rise rules rises)))

-- what a partition point says of the two parts
pub front_passes : (p : Rule → Bool) (rules : List Rule) (place : ℕ) → place ≤ length rules → IsPartitionPoint (λ rule. p rule ≡ true) (λ rule. p rule ≡ false) rules place → Each (λ rule. p rule ≡ true) (take place rules)
front_passes p rules place bound point =
    recursion_from_All (λ rule. p rule ≡ true) (take place rules)
    (λ k d inside. let l : length (take place rules) ≡ place = length-take-le place rules bound in ap p (get_or-take place rules k d (omega (arith, l, inside))) ∙ point.0 k d (omega arith) (omega (arith, l, inside)))

pub back_fails : (p : Rule → Bool) (rules : List Rule) (place : ℕ) → IsPartitionPoint (λ rule. p rule ≡ true) (λ rule. p rule ≡ false) rules place → Each (λ rule. p rule ≡ false) (drop place rules)
back_fails p rules place point =
    recursion_from_All (λ rule. p rule ≡ false) (drop place rules)
    (λ k d inside. let l : length (drop place rules) ≡ length rules - place = length-drop place rules in ap p (get_or-drop place rules k d) ∙ point.1 (place + k) d (omega arith) (omega (arith, l, inside)))

lower_is_other : (priority : ℕ) (rule : Rule) → nat_lt rule.priority priority ≡ true → (rule.priority == priority) ≡ false
lower_is_other priority rule lower = grind (arith, nat_tests, lower)

higher_is_other : (priority : ℕ) (rule : Rule) → nat_le rule.priority priority ≡ false → (rule.priority == priority) ≡ false
higher_is_other priority rule higher = grind (arith, nat_tests, higher)

between_is_it : (priority : ℕ) (rule : Rule) → nat_lt rule.priority priority ≡ false → nat_le rule.priority priority ≡ true → (rule.priority == priority) ≡ true
between_is_it priority rule low high = grind (arith, nat_tests, low, high)

each_to : {X : Type 0} (P Q : X → Type 0) → ((x : X) → P x → Q x) → (xs : List X) → Each P xs → Each Q xs
each_to P Q gives [] h = tt
each_to P Q gives (x ∷ xs) h = (gives x h.0, each_to P Q gives xs h.1)

each_front : {X : Type 0} (P : X → Type 0) (n : ℕ) (xs : List X) → Each P xs → Each P (take n xs)
each_front P zero xs h = tt
each_front P (suc n) [] h = tt
each_front P (suc n) (x ∷ xs) h = (h.0, each_front P n xs h.1)

-- first those of lower priorities, then those of this one, then those of higher ones
run_of : (priority start count : ℕ) (rules : List Rule) → start ≤ length rules → count ≤ length (drop start rules) → IsPartitionPoint (λ (rule : Rule). nat_lt rule.priority priority ≡ true) (λ (rule : Rule). nat_lt rule.priority priority ≡ false) rules start → IsPartitionPoint (λ (rule : Rule). nat_le rule.priority priority ≡ true) (λ (rule : Rule). nat_le rule.priority priority ≡ false) (drop start rules) count → take count (drop start rules) ≡ rules_at priority rules
run_of priority start count rules bound count_bound first second =
    let rest : List Rule = drop start rules in
    let it : Rule → Bool = λ (rule : Rule). rule.priority == priority in
    let before : filter it (take start rules) ≡ [] = none_pass it (take start rules) (each_to (λ (rule : Rule). nat_lt rule.priority priority ≡ true) (λ rule. it rule ≡ false) (lower_is_other priority) (take start rules) (front_passes (λ (rule : Rule). nat_lt rule.priority priority) rules start bound first)) in
    let after : filter it (drop count rest) ≡ [] = none_pass it (drop count rest) (each_to (λ (rule : Rule). nat_le rule.priority priority ≡ false) (λ rule. it rule ≡ false) (higher_is_other priority) (drop count rest) (back_fails (λ (rule : Rule). nat_le rule.priority priority) rest count second)) in
    let here : filter it (take count rest) ≡ take count rest =
    all_pass it (take count rest) (each_both (λ (rule : Rule). nat_lt rule.priority priority ≡ false) (λ (rule : Rule). nat_le rule.priority priority ≡ true) (λ rule. it rule ≡ true) (between_is_it priority) (take count rest)
    (each_front (λ (rule : Rule). nat_lt rule.priority priority ≡ false) count rest (back_fails (λ (rule : Rule). nat_lt rule.priority priority) rules start first))
    (front_passes (λ (rule : Rule). nat_le rule.priority priority) rest count count_bound second)) in
    sym (ap (filter it) (sym (take-append-drop start rules)) ∙ filter-append it (take start rules) rest ∙ ap (λ xs. xs ++ filter it rest) before
    ∙ ap (filter it) (sym (take-append-drop count rest)) ∙ filter-append it (take count rest) (drop count rest) ∙ ap (λ xs. filter it (take count rest) ++ xs) after ∙ append-nil (filter it (take count rest)) ∙ here)

pub run_is : (priority start count : ℕ) (rules : List Rule) → start ≤ length rules → count ≤ length (take (length rules - start) (drop start rules)) → IsPartitionPoint (λ (rule : Rule). nat_lt rule.priority priority ≡ true) (λ (rule : Rule). nat_lt rule.priority priority ≡ false) rules start → IsPartitionPoint (λ (rule : Rule). nat_le rule.priority priority ≡ true) (λ (rule : Rule). nat_le rule.priority priority ≡ false) (take (length rules - start) (drop start rules)) count → take count (take (length rules - start) (drop start rules)) ≡ rules_at priority rules
run_is priority start count rules bound count_bound first second =
    ap (take count) (take_rest rules start)
    ∙ run_of priority start count rules bound (subst (λ rest. count ≤ length rest) (take_rest rules start) count_bound) first
    (subst (λ rest. IsPartitionPoint (λ (rule : Rule). nat_le rule.priority priority ≡ true) (λ (rule : Rule). nat_le rule.priority priority ≡ false) rest count) (take_rest rules start) second)
