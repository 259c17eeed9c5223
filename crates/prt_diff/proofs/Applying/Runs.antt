-- Rules that are sorted by priority, and their parts by priority.
use Rattle.std.proofs.Common.{◌≡◌, ℕ, suc, ◌<◌, ◌≤◌, Bool, true, false, ◌&&◌, ◌||◌, List, [], ◌∷◌, ◌++◌, refl, sym, ap, ◌∙◌, arith, cond}
use Rattle.std.specs.Prelude.{filter, ◌==◌, nat_le, nat_lt}
use Rattle.std.specs.List.{AllByRecursion as Each}
use Rattle.std.proofs.lemmas.Bool.Decides.{nat_tests}
use Rattle.prt_addr.proofs.Each.{each_implies}
use Rattle.prt_rule.specs.declared.rule.Rule.{Rule}
use Rattle.prt_diff.specs.Rules.{rules_at}
use Rattle.prt_diff.specs.Apply.Rules.{above_all}
use Rattle.prt_diff.specs.Apply.Walk.{rules_below, rules_from}
use Rattle.prt_diff.proofs.Members.{all_pass, differ, none_pass}
use Rattle.prt_diff.proofs.RuleClasses.{RisesByPriority}

-- ---- one test in two parts

parted_by : (rule : Rule) (all front back : List Rule) (a b c : Bool) → a ≡ (b || c) → (b && c) ≡ false → (c ≡ true → front ≡ []) → all ≡ front ++ back → cond a (rule ∷ all) all ≡ cond b (rule ∷ front) front ++ cond c (rule ∷ back) back
parted_by rule all front back a true true either both none rest = differ both
parted_by rule all front back a true false either both none rest = ap (λ a. cond a (rule ∷ all) all) either ∙ ap (λ xs. rule ∷ xs) rest
parted_by rule all front back a false true either both none rest =
    ap (λ a. cond a (rule ∷ all) all) either ∙ ap (λ xs. rule ∷ xs) (rest ∙ ap (λ xs. xs ++ back) (none refl)) ∙ sym (ap (λ xs. xs ++ rule ∷ back) (none refl))
parted_by rule all front back a false false either both none rest = ap (λ a. cond a (rule ∷ all) all) either ∙ rest

-- The rules that pass one test are those that pass either of two others, if none of the one kind follows one of the other.
module _ (p q r : Rule → Bool) (either : (rule : Rule) → p rule ≡ (q rule || r rule)) (both : (rule : Rule) → (q rule && r rule) ≡ false) (after : (rule other : Rule) → rule.priority ≤ other.priority → r rule ≡ true → q other ≡ false) where
  parted : (rules : List Rule) → RisesByPriority rules → filter p rules ≡ filter q rules ++ filter r rules
  parted [] rises = refl
  parted (rule ∷ rules) rises =
      parted_by rule (filter p rules) (filter q rules) (filter r rules) (p rule) (q rule) (r rule) (either rule) (both rule)
      (λ is. none_pass q rules (each_implies (λ (other : Rule). rule.priority ≤ other.priority) (λ other. q other ≡ false) (λ other above. after rule other above is) rules rises.0))
      (parted rules rises.1)

-- ---- the rules below a priority, at it, and from it on

below_either : (n : ℕ) (rule : Rule) → nat_lt rule.priority (suc n) ≡ (nat_lt rule.priority n || rule.priority == n)
below_either n rule = grind (arith, nat_tests)

below_both : (n : ℕ) (rule : Rule) → (nat_lt rule.priority n && rule.priority == n) ≡ false
below_both n rule = grind (arith, nat_tests)

below_after : (n : ℕ) (rule other : Rule) → rule.priority ≤ other.priority → (rule.priority == n) ≡ true → nat_lt other.priority n ≡ false
below_after n rule other above is = grind (arith, nat_tests)

pub below_next : (n : ℕ) (rules : List Rule) → RisesByPriority rules → rules_below (suc n) rules ≡ rules_below n rules ++ rules_at n rules
below_next n rules rises = parted (λ (rule : Rule). nat_lt rule.priority (suc n)) (λ (rule : Rule). nat_lt rule.priority n) (λ (rule : Rule). rule.priority == n) (below_either n) (below_both n) (below_after n) rules rises

from_either : (n : ℕ) (rule : Rule) → nat_le n rule.priority ≡ (rule.priority == n || nat_le (suc n) rule.priority)
from_either n rule = grind (arith, nat_tests)

from_both : (n : ℕ) (rule : Rule) → (rule.priority == n && nat_le (suc n) rule.priority) ≡ false
from_both n rule = grind (arith, nat_tests)

from_after : (n : ℕ) (rule other : Rule) → rule.priority ≤ other.priority → nat_le (suc n) rule.priority ≡ true → (other.priority == n) ≡ false
from_after n rule other above is = grind (arith, nat_tests)

pub from_next : (n : ℕ) (rules : List Rule) → RisesByPriority rules → rules_from n rules ≡ rules_at n rules ++ rules_from (suc n) rules
from_next n rules rises = parted (λ (rule : Rule). nat_le n rule.priority) (λ (rule : Rule). rule.priority == n) (λ (rule : Rule). nat_le (suc n) rule.priority) (from_either n) (from_both n) (from_after n) rules rises

-- ---- all rules

from_none : (rule : Rule) → nat_le 0 rule.priority ≡ true
from_none rule = grind (arith, nat_tests)

pub all_from_none : (rules : List Rule) → rules_from 0 rules ≡ rules
all_from_none rules = all_pass (λ (rule : Rule). nat_le 0 rule.priority) rules (each rules)
  where
    each : (rules : List Rule) → Each (λ rule. nat_le 0 rule.priority ≡ true) rules
    each [] = tt
    each (rule ∷ rules) = (from_none rule, each rules)

none_lower : (rule : Rule) → nat_lt rule.priority 0 ≡ false
none_lower rule = grind (arith, nat_tests)

pub none_below_none : (rules : List Rule) → rules_below 0 rules ≡ []
none_below_none rules = none_pass (λ (rule : Rule). nat_lt rule.priority 0) rules (each rules)
  where
    each : (rules : List Rule) → Each (λ rule. nat_lt rule.priority 0 ≡ false) rules
    each [] = tt
    each (rule ∷ rules) = (none_lower rule, each rules)

pub above : (rules : List Rule) (n : ℕ) → above_all rules ≤ n → Each (λ (rule : Rule). rule.priority < n) rules
above [] n most = tt
above (rule ∷ rules) n most = (omega (arith, most), above rules n (omega (arith, most)))

is_below : (n : ℕ) (rule : Rule) → rule.priority < n → nat_lt rule.priority n ≡ true
is_below n rule lower = grind (arith, nat_tests)

is_not_from : (n : ℕ) (rule : Rule) → rule.priority < n → nat_le n rule.priority ≡ false
is_not_from n rule lower = grind (arith, nat_tests)

is_not_at : (n : ℕ) (rule : Rule) → rule.priority < n → (rule.priority == n) ≡ false
is_not_at n rule lower = grind (arith, nat_tests)

pub all_below : (n : ℕ) (rules : List Rule) → Each (λ (rule : Rule). rule.priority < n) rules → rules_below n rules ≡ rules
all_below n rules lower = all_pass (λ (rule : Rule). nat_lt rule.priority n) rules (each_implies (λ (rule : Rule). rule.priority < n) (λ rule. nat_lt rule.priority n ≡ true) (is_below n) rules lower)

pub none_from : (n : ℕ) (rules : List Rule) → Each (λ (rule : Rule). rule.priority < n) rules → rules_from n rules ≡ []
none_from n rules lower = none_pass (λ (rule : Rule). nat_le n rule.priority) rules (each_implies (λ (rule : Rule). rule.priority < n) (λ rule. nat_le n rule.priority ≡ false) (is_not_from n) rules lower)

pub none_at : (n : ℕ) (rules : List Rule) → Each (λ (rule : Rule). rule.priority < n) rules → rules_at n rules ≡ []
none_at n rules lower = none_pass (λ (rule : Rule). rule.priority == n) rules (each_implies (λ (rule : Rule). rule.priority < n) (λ rule. (rule.priority == n) ≡ false) (is_not_at n) rules lower)
