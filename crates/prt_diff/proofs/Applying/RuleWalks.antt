-- How the code goes over rules in order: each list once, priority by priority.
use Rattle.std.proofs.Common.{◌≡◌, inl, inr, ℕ, zero, suc, ◌+◌, ◌<◌, ◌≤◌, Bool, true, false, List, [], ◌∷◌, ◌++◌, Some, None, length, refl, sym, ap, ◌∙◌, subst, append_assoc, arith, cond, take, drop}
use Rattle.std.specs.Prelude.{filter, ◌==◌, nat_le, nat_lt, min}
use Rattle.std.specs.List.{AllByRecursion as Each}
use Rattle.std.specs.List.Sorted.{IsPartitionPoint, IsPartitionedBy}
use Rattle.std.proofs.lemmas.Bool.{cases_lt, cases_order, ne_eqb}
use Rattle.std.proofs.lemmas.Bool.Decides.{nat_tests}
use Rattle.std.proofs.lemmas.List.{append-nil, take-append-drop}
use Rattle.std.proofs.lemmas.List.Elements.{filter-append}
use Rattle.std.proofs.lemmas.List.Sorted.{IsPartitionedBy-leb}
use Rattle.prt_addr.specs.Rising.{IsRising}
use Rattle.prt_addr.proofs.Each.{each_filtered, each_implies, filtered_fit}
use Rattle.prt_addr.proofs.Orders.{rising_filtered}
use Rattle.prt_rule.specs.Rule.{is_before}
use Rattle.prt_rule.specs.declared.rule.Rule.{Rule}
use Rattle.prt_command.specs.declared.request.Command.{Command}
use Rattle.prt_version.proofs.ByTable.{filter_absorbed}
use Rattle.prt_version.proofs.SortedRows.{rising_numbers}
use Rattle.prt_diff.specs.Rules.{rules_at}
use Rattle.prt_diff.specs.Apply.Rules.{above_all, changes_below, replacing, rule_changes}
use Rattle.prt_diff.specs.Apply.Walk.{lowest_priority, rules_below, rules_from}
use Rattle.prt_diff.proofs.Members.{all_pass, each_split, none_pass}
use Rattle.prt_diff.proofs.RuleClasses.{RisesByPriority, rises_by_priority}
use Rattle.prt_diff.proofs.RuleRuns.{back_fails, front_passes, no_lower, priority_of}
use Rattle.prt_diff.proofs.Applying.Runs.{above, below_next, none_at}
use Rattle.prt_diff.proofs.Applying.Stages.{from_each}

-- ---- rules are split behind a priority

abbrev pub is_up_to : ℕ → Rule → Bool
is_up_to priority rule = nat_le rule.priority priority

pub up_to_parted : (rules : List Rule) (priority : ℕ) → IsRising is_before rules → IsPartitionedBy (is_up_to priority) rules
up_to_parted rules priority rises = IsPartitionedBy-leb priority_of rules priority (rising_numbers is_before priority_of no_lower rules rises)

below_if : (n : ℕ) (rule : Rule) → is_up_to n rule ≡ true → nat_lt rule.priority (suc n) ≡ true
below_if n rule is = grind (arith, nat_tests, is)

not_below_if : (n : ℕ) (rule : Rule) → is_up_to n rule ≡ false → nat_lt rule.priority (suc n) ≡ false
not_below_if n rule is = grind (arith, nat_tests, is)

not_from_if : (n : ℕ) (rule : Rule) → is_up_to n rule ≡ true → nat_le (suc n) rule.priority ≡ false
not_from_if n rule is = grind (arith, nat_tests, is)

from_if : (n : ℕ) (rule : Rule) → is_up_to n rule ≡ false → nat_le (suc n) rule.priority ≡ true
from_if n rule is = grind (arith, nat_tests, is)

module _ (priority place : ℕ) (rules : List Rule) (bound : place ≤ length rules) (point : IsPartitionPoint (λ rule. is_up_to priority rule ≡ true) (λ rule. is_up_to priority rule ≡ false) rules place) where
  low : Each (λ rule. is_up_to priority rule ≡ true) (take place rules)
  low = front_passes (is_up_to priority) rules place bound point

  high : Each (λ rule. is_up_to priority rule ≡ false) (drop place rules)
  high = back_fails (is_up_to priority) rules place point

  pub front_is : take place rules ≡ rules_below (suc priority) rules
  front_is =
      let below : Rule → Bool = λ (rule : Rule). nat_lt rule.priority (suc priority) in
      sym (ap (filter below) (sym (take-append-drop place rules)) ∙ filter-append below (take place rules) (drop place rules)
      ∙ ap (λ xs. xs ++ filter below (drop place rules)) (all_pass below (take place rules) (each_implies (λ rule. is_up_to priority rule ≡ true) (λ rule. below rule ≡ true) (below_if priority) (take place rules) low))
      ∙ ap (λ xs. take place rules ++ xs) (none_pass below (drop place rules) (each_implies (λ rule. is_up_to priority rule ≡ false) (λ rule. below rule ≡ false) (not_below_if priority) (drop place rules) high))
      ∙ append-nil (take place rules))

  pub back_is : drop place rules ≡ rules_from (suc priority) rules
  back_is =
      let from : Rule → Bool = λ (rule : Rule). nat_le (suc priority) rule.priority in
      sym (ap (filter from) (sym (take-append-drop place rules)) ∙ filter-append from (take place rules) (drop place rules)
      ∙ ap (λ xs. xs ++ filter from (drop place rules)) (none_pass from (take place rules) (each_implies (λ rule. is_up_to priority rule ≡ true) (λ rule. from rule ≡ false) (not_from_if priority) (take place rules) low))
      ∙ all_pass from (drop place rules) (each_implies (λ rule. is_up_to priority rule ≡ false) (λ rule. from rule ≡ true) (from_if priority) (drop place rules) high))

-- ---- changes of priorities that no rule has

abbrev AreBelow : ℕ → List Rule → Type 0
AreBelow n rules = Each (λ (rule : Rule). rule.priority < n) rules

abbrev AreFrom : ℕ → List Rule → Type 0
AreFrom n rules = Each (λ (rule : Rule). n ≤ rule.priority) rules

none_at_lower : (n m : ℕ) (rules : List Rule) → n < m → AreFrom m rules → rules_at n rules ≡ []
none_at_lower n m rules lower from = none_pass (λ (rule : Rule). rule.priority == n) rules (each_implies (λ (rule : Rule). m ≤ rule.priority) (λ (rule : Rule). (rule.priority == n) ≡ false) (λ rule above. ne_eqb rule.priority n (λ same. absurd (omega arith))) rules from)

no_rules : (found wanted here there : List Rule) → here ≡ [] → there ≡ [] → replacing here there ≡ []
no_rules found wanted here there none_here none_there = ap (λ rules. replacing rules there) none_here ∙ ap (replacing []) none_there

quiet : (n m : ℕ) (found wanted : List Rule) → n ≤ m → AreFrom m found → AreFrom m wanted → changes_below n found wanted ≡ []
quiet zero m found wanted low found_from wanted_from = refl
quiet (suc n) m found wanted low found_from wanted_from =
    ap (λ commands. commands ++ replacing (rules_at n found) (rules_at n wanted)) (quiet n m found wanted (omega arith) found_from wanted_from)
    ∙ no_rules found wanted (rules_at n found) (rules_at n wanted) (none_at_lower n m found (omega arith) found_from) (none_at_lower n m wanted (omega arith) wanted_from)

more_below : (n m : ℕ) (rules : List Rule) → n ≤ m → AreBelow n rules → AreBelow m rules
more_below n m rules low below = each_implies (λ (rule : Rule). rule.priority < n) (λ (rule : Rule). rule.priority < m) (λ rule lower. omega (arith, lower, low)) rules below

no_more : (m n : ℕ) (found wanted : List Rule) → n ≤ m → AreBelow n found → AreBelow n wanted → changes_below m found wanted ≡ changes_below n found wanted
no_more zero n found wanted low found_below wanted_below = let none : zero ≡ n = omega arith in ap (λ k. changes_below k found wanted) none
no_more (suc m) n found wanted low found_below wanted_below =
    elim (cases_lt m n) [
      | inl at ↦ (let is : suc m ≡ n = omega (arith, at, low) in ap (λ k. changes_below k found wanted) is)
      | inr above_n ↦
          ap (λ commands. changes_below m found wanted ++ commands) (no_rules found wanted (rules_at m found) (rules_at m wanted) (none_at m found (more_below n m found above_n found_below)) (none_at m wanted (more_below n m wanted above_n wanted_below)))
          ∙ append-nil (changes_below m found wanted)
          ∙ no_more m n found wanted above_n found_below wanted_below
    ]

same_changes : (m n : ℕ) (found wanted : List Rule) → AreBelow m found → AreBelow m wanted → AreBelow n found → AreBelow n wanted → changes_below m found wanted ≡ changes_below n found wanted
same_changes m n found wanted found_m wanted_m found_n wanted_n =
    elim (cases_lt m n) [
      | inl lower ↦ sym (no_more n m found wanted (omega (arith, lower)) found_m wanted_m)
      | inr higher ↦ no_more m n found wanted higher found_n wanted_n
    ]

-- ---- the lowest priority, and then the others

module _ (p : ℕ) (found wanted : List Rule) (found_from : AreFrom p found) (wanted_from : AreFrom p wanted) (found_rises : RisesByPriority found) (wanted_rises : RisesByPriority wanted) where
  abbrev here : List Command
  here = replacing (rules_below (suc p) found) (rules_below (suc p) wanted)

  abbrev found_rest : List Rule
  found_rest = rules_from (suc p) found

  abbrev wanted_rest : List Rule
  wanted_rest = rules_from (suc p) wanted

  none_below_p : (rules : List Rule) → AreFrom p rules → rules_below p rules ≡ []
  none_below_p rules from = none_pass (λ (rule : Rule). nat_lt rule.priority p) rules (each_implies (λ (rule : Rule). p ≤ rule.priority) (λ (rule : Rule). nat_lt rule.priority p ≡ false) not_below rules from)
    where
      not_below : (rule : Rule) → p ≤ rule.priority → nat_lt rule.priority p ≡ false
      not_below rule above = grind (arith, nat_tests)

  all_at : (rules : List Rule) → AreFrom p rules → RisesByPriority rules → rules_at p rules ≡ rules_below (suc p) rules
  all_at rules from rises = sym (below_next p rules rises ∙ ap (λ xs. xs ++ rules_at p rules) (none_below_p rules from))

  rest_at : (n : ℕ) (rules : List Rule) → p < n → rules_at n rules ≡ rules_at n (rules_from (suc p) rules)
  rest_at n rules above_p = sym (filter_absorbed (λ (rule : Rule). rule.priority == n) (λ (rule : Rule). nat_le (suc p) rule.priority) rules is_from)
    where
      is_from : (rule : Rule) → (rule.priority == n) ≡ true → nat_le (suc p) rule.priority ≡ true
      is_from rule is = grind (arith, nat_tests, is)

  below_p : changes_below p found wanted ≡ []
  below_p = quiet p p found wanted (omega arith) found_from wanted_from

  rest_quiet : changes_below (suc p) found_rest wanted_rest ≡ []
  rest_quiet =
      quiet (suc p) (suc p) found_rest wanted_rest (omega arith)
      (each_implies (λ (rule : Rule). p < rule.priority) (λ (rule : Rule). suc p ≤ rule.priority) (λ rule above_p. omega (arith, above_p)) found_rest (from_each p found))
      (each_implies (λ (rule : Rule). p < rule.priority) (λ (rule : Rule). suc p ≤ rule.priority) (λ rule above_p. omega (arith, above_p)) wanted_rest (from_each p wanted))

  first_changes : changes_below (suc p) found wanted ≡ here ++ changes_below (suc p) found_rest wanted_rest
  first_changes =
      ap (λ commands. commands ++ replacing (rules_at p found) (rules_at p wanted)) below_p
      ∙ ap (λ rules. replacing rules (rules_at p wanted)) (all_at found found_from found_rises)
      ∙ ap (replacing (rules_below (suc p) found)) (all_at wanted wanted_from wanted_rises)
      ∙ sym (append-nil here)
      ∙ ap (λ commands. here ++ commands) (sym rest_quiet)

  changes_split : (n : ℕ) → p < n → changes_below n found wanted ≡ here ++ changes_below n found_rest wanted_rest
  changes_split zero above_p = absurd (omega arith)
  changes_split (suc n) above_p =
      elim (cases_order n p) [
        | inl is ↦ subst (λ k. changes_below (suc k) found wanted ≡ here ++ changes_below (suc k) found_rest wanted_rest) (sym is) first_changes
        | inr (inl lower) ↦ absurd (omega (arith, lower, above_p))
        | inr (inr higher) ↦
            ap (λ commands. commands ++ replacing (rules_at n found) (rules_at n wanted)) (changes_split n higher)
            ∙ ap (λ rules. (here ++ changes_below n found_rest wanted_rest) ++ replacing rules (rules_at n wanted)) (rest_at n found higher)
            ∙ ap (λ rules. (here ++ changes_below n found_rest wanted_rest) ++ replacing (rules_at n found_rest) rules) (rest_at n wanted higher)
            ∙ append_assoc here (changes_below n found_rest wanted_rest) (replacing (rules_at n found_rest) (rules_at n wanted_rest))
      ]

  rule_changes_split : rule_changes found wanted ≡ here ++ rule_changes found_rest wanted_rest
  rule_changes_split =
      let top : ℕ = above_all (found ++ wanted) in
      let n : ℕ = top + suc p in
      let all = each_split (λ (rule : Rule). rule.priority < top) found wanted (above (found ++ wanted) top (omega arith)) in
      let found_n : AreBelow n found = more_below top n found (omega arith) all.0 in
      let wanted_n : AreBelow n wanted = more_below top n wanted (omega arith) all.1 in
      let rest_top : ℕ = above_all (found_rest ++ wanted_rest) in
      let rest = each_split (λ (rule : Rule). rule.priority < rest_top) found_rest wanted_rest (above (found_rest ++ wanted_rest) rest_top (omega arith)) in
      same_changes top n found wanted all.0 all.1 found_n wanted_n
      ∙ changes_split n (omega arith)
      ∙ ap (λ commands. here ++ commands)
      (same_changes n rest_top found_rest wanted_rest (each_filtered (λ (rule : Rule). rule.priority < n) (λ (rule : Rule). nat_le (suc p) rule.priority) found found_n) (each_filtered (λ (rule : Rule). rule.priority < n) (λ (rule : Rule). nat_le (suc p) rule.priority) wanted wanted_n) rest.0 rest.1)

-- ---- what the lowest priority is

fewer : (p : ℕ) (rule : Rule) (rules : List Rule) → rule.priority ≤ p → length (rules_from (suc p) (rule ∷ rules)) < length (rule ∷ rules)
fewer p rule rules low =
    let fails : nat_le (suc p) rule.priority ≡ false = not_above low in
    let l : length (rules_from (suc p) (rule ∷ rules)) ≡ length (rules_from (suc p) rules) = ap (λ b. length (cond b (rule ∷ rules_from (suc p) rules) (rules_from (suc p) rules))) fails in
    omega (arith, l, filtered_fit (λ (other : Rule). nat_le (suc p) other.priority) rules (length rules) (omega arith))
  where
    not_above : rule.priority ≤ p → nat_le (suc p) rule.priority ≡ false
    not_above low = grind (arith, nat_tests)

no_more_rules : (p : ℕ) (rules : List Rule) → length (rules_from (suc p) rules) ≤ length rules
no_more_rules p rules = filtered_fit (λ (other : Rule). nat_le (suc p) other.priority) rules (length rules) (omega arith)

-- the lowest priority is that of one of the rules, and no rule has a lower one
pub record IsLowest (p : ℕ) (found wanted : List Rule) : Type 0 where
  pub found_from : Each (λ (rule : Rule). p ≤ rule.priority) found
  pub wanted_from : Each (λ (rule : Rule). p ≤ rule.priority) wanted
  pub fewer_rules : length (rules_from (suc p) found) + length (rules_from (suc p) wanted) < length found + length wanted

from_first : (p : ℕ) (rule : Rule) (rules : List Rule) → p ≤ rule.priority → RisesByPriority (rule ∷ rules) → Each (λ (other : Rule). p ≤ other.priority) (rule ∷ rules)
from_first p rule rules low rises = (low, each_implies (λ (other : Rule). rule.priority ≤ other.priority) (λ (other : Rule). p ≤ other.priority) (λ other above. omega (arith, low, above)) rules rises.0)

pub lowest : (p : ℕ) (found wanted : List Rule) → lowest_priority found wanted ≡ Some p → RisesByPriority found → RisesByPriority wanted → IsLowest p found wanted
lowest p [] [] is found_rises wanted_rises = absurd cc
lowest p (rule ∷ rules) [] is found_rises wanted_rises =
    let at : rule.priority ≡ p = cc in
    record { found_from = from_first p rule rules (omega (arith, at)) found_rises; wanted_from = tt; fewer_rules = omega (arith, fewer p rule rules (omega (arith, at))) }
lowest p [] (other ∷ others) is found_rises wanted_rises =
    let at : other.priority ≡ p = cc in
    record { found_from = tt; wanted_from = from_first p other others (omega (arith, at)) wanted_rises; fewer_rules = omega (arith, fewer p other others (omega (arith, at))) }
lowest p (rule ∷ rules) (other ∷ others) is found_rises wanted_rises =
    let at : min rule.priority other.priority ≡ p = cc in
    let k = no_more_rules p (rule ∷ rules) in
    let l = no_more_rules p (other ∷ others) in
    record {
      found_from = from_first p rule rules (omega (arith, at)) found_rises;
      wanted_from = from_first p other others (omega (arith, at)) wanted_rises;
      fewer_rules = elim (cases_lt rule.priority other.priority) [
        | inl first ↦ omega (arith, l, fewer p rule rules (omega (arith, at, first)))
        | inr second ↦ omega (arith, k, fewer p other others (omega (arith, at, second)))
      ];
    }

-- ---- one step of the walk

pub changes_on : (p : ℕ) (found wanted : List Rule) → lowest_priority found wanted ≡ Some p → IsRising is_before found → IsRising is_before wanted
    → rule_changes found wanted ≡ replacing (rules_below (suc p) found) (rules_below (suc p) wanted) ++ rule_changes (rules_from (suc p) found) (rules_from (suc p) wanted)
changes_on p found wanted is found_rises wanted_rises =
    let f = rises_by_priority found found_rises in
    let w = rises_by_priority wanted wanted_rises in
    let low = lowest p found wanted is f w in
    rule_changes_split p found wanted low.found_from low.wanted_from f w

pub changes_fewer : (p : ℕ) (found wanted : List Rule) → lowest_priority found wanted ≡ Some p → IsRising is_before found → IsRising is_before wanted → length (rules_from (suc p) found) + length (rules_from (suc p) wanted) < length found + length wanted
changes_fewer p found wanted is found_rises wanted_rises = (lowest p found wanted is (rises_by_priority found found_rises) (rises_by_priority wanted wanted_rises)).fewer_rules

pub changes_over : (found wanted : List Rule) → lowest_priority found wanted ≡ None → rule_changes found wanted ≡ []
changes_over [] [] is = refl
changes_over [] (other ∷ others) is = absurd cc
changes_over (rule ∷ rules) [] is = absurd cc
changes_over (rule ∷ rules) (other ∷ others) is = absurd cc

pub rest_rises : (p : ℕ) (rules : List Rule) → IsRising is_before rules → IsRising is_before (rules_from (suc p) rules)
rest_rises p rules rises = rising_filtered is_before (λ (rule : Rule). nat_le (suc p) rule.priority) rules rises

module _ (p : ℕ) (found wanted found_behind wanted_behind : List Rule) (is : lowest_priority found wanted ≡ Some p) (found_rises : IsRising is_before found) (wanted_rises : IsRising is_before wanted) (found_is : found_behind ≡ rules_from (suc p) found) (wanted_is : wanted_behind ≡ rules_from (suc p) wanted) where
  pub fewer_left : length found_behind + length wanted_behind < length found + length wanted
  fewer_left =
      let f = ap length found_is in
      let w = ap length wanted_is in
      omega (arith, f, w, changes_fewer p found wanted is found_rises wanted_rises)

  pub changes_more : (found_here wanted_here : List Rule) (old new all : List Command) → found_here ≡ rules_below (suc p) found → wanted_here ≡ rules_below (suc p) wanted → new ≡ old ++ replacing found_here wanted_here → old ++ rule_changes found wanted ≡ all → new ++ rule_changes found_behind wanted_behind ≡ all
  changes_more found_here wanted_here old new all found_here_is wanted_here_is pushed held =
      ap (λ commands. commands ++ rule_changes found_behind wanted_behind) pushed
      ∙ append_assoc old (replacing found_here wanted_here) (rule_changes found_behind wanted_behind)
      ∙ ap (λ commands. old ++ commands)
      (ap (λ rules. replacing rules wanted_here ++ rule_changes found_behind wanted_behind) found_here_is
      ∙ ap (λ rules. replacing (rules_below (suc p) found) rules ++ rule_changes found_behind wanted_behind) wanted_here_is
      ∙ ap (λ rules. replacing (rules_below (suc p) found) (rules_below (suc p) wanted) ++ rule_changes rules wanted_behind) found_is
      ∙ ap (λ rules. replacing (rules_below (suc p) found) (rules_below (suc p) wanted) ++ rule_changes (rules_from (suc p) found) rules) wanted_is
      ∙ sym (changes_on p found wanted is found_rises wanted_rises))
      ∙ held
