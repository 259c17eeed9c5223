-- Which rules a list has, except for ids, and what an addition and a deletion make of it.
use Rattle.std.proofs.Common.{◌≡◌, ℕ, ◌<◌, Bool, true, false, not, ◌&&◌, ◌||◌, List, [], ◌∷◌, ◌++◌, map, refl, sym, ap, ◌∙◌, arith, cond}
use Rattle.std.specs.Prelude.{if◌then◌else◌}
use Rattle.std.specs.List.{AllByRecursion as Each}
use Rattle.std.proofs.lemmas.Bool.Decides.{nat_tests}
use Rattle.prt_addr.specs.Order.{insert_by}
use Rattle.prt_rule.specs.Rule.{is_before}
use Rattle.prt_rule.specs.Same.{is_same_rule}
use Rattle.prt_rule.specs.declared.rule.Rule.{Rule}
use Rattle.prt_rule.proofs.SameRules.{rules_same, same_both_ways}
use Rattle.prt_version.specs.Change.{has_rule}
use Rattle.prt_diff.specs.Between.{AreSame}
use Rattle.prt_diff.specs.Fence.{is_rule_within}
use Rattle.prt_diff.specs.Rules.{has_lower_priority, is_first_taken, takes, with_rule, without_id, without_rule}
use Rattle.prt_diff.specs.declared.fence.Fence.{Fence}
use Rattle.prt_diff.proofs.Members.{differ}

abbrev pub numbered : ℕ → Rule → Rule
numbered id rule = record rule { id = id }

-- ---- rules that are the same except for ids

pub same_itself : (rule : Rule) → is_same_rule rule rule ≡ true
same_itself rule = (rules_same rule rule).1 refl

-- the same rule has the same likenesses
pub like_left : (a b x : Rule) → is_same_rule a b ≡ true → is_same_rule a x ≡ is_same_rule b x
like_left a b x same = ap (λ r. is_same_rule r x) ((rules_same a b).0 same)

pub like_right : (a b x : Rule) → is_same_rule a b ≡ true → is_same_rule x a ≡ is_same_rule x b
like_right a b x same = ap (λ r. is_same_rule x r) ((rules_same a b).0 same)

pub has_like : (a b : Rule) (rules : List Rule) → is_same_rule a b ≡ true → has_rule a rules ≡ has_rule b rules
has_like a b rules same = ap (λ r. has_rule r rules) ((rules_same a b).0 same)

pub same_within : (fence : Fence) (a b : Rule) → is_same_rule a b ≡ true → is_rule_within fence a ≡ is_rule_within fence b
same_within fence a b same = ap (is_rule_within fence) ((rules_same a b).0 same)

-- ---- lists that are the same except for ids

has_shape : (rule : Rule) (rules : List Rule) → has_rule rule (map without_id rules) ≡ has_rule rule rules
has_shape rule [] = refl
has_shape rule (other ∷ rules) = ap (λ b. is_same_rule other rule || b) (has_shape rule rules)

pub same_has : (rule : Rule) (rules others : List Rule) → AreSame rules others → has_rule rule rules ≡ has_rule rule others
same_has rule rules others same = sym (has_shape rule rules) ∙ ap (has_rule rule) same ∙ has_shape rule others

first_shape : (rule : Rule) (rules : List Rule) → is_first_taken rule (map without_id rules) ≡ is_first_taken rule rules
first_shape rule [] = refl
first_shape rule (other ∷ rules) = ap (λ b. if takes rule other then is_same_rule other rule else b) (first_shape rule rules)

pub same_first : (rule : Rule) (rules others : List Rule) → AreSame rules others → is_first_taken rule rules ≡ is_first_taken rule others
same_first rule rules others same = sym (first_shape rule rules) ∙ ap (is_first_taken rule) same ∙ first_shape rule others

without_by : (rule other : Rule) (rules : List Rule) (b : Bool) → map without_id (without_rule rule rules) ≡ without_rule rule (map without_id rules) → map without_id (cond (not b) (other ∷ without_rule rule rules) (without_rule rule rules)) ≡ cond (not b) (without_id other ∷ without_rule rule (map without_id rules)) (without_rule rule (map without_id rules))
without_by rule other rules true rest = rest
without_by rule other rules false rest = ap (λ xs. without_id other ∷ xs) rest

without_shape : (rule : Rule) (rules : List Rule) → map without_id (without_rule rule rules) ≡ without_rule rule (map without_id rules)
without_shape rule [] = refl
without_shape rule (other ∷ rules) = without_by rule other rules (is_same_rule other rule) (without_shape rule rules)

pub same_without : (rule : Rule) (rules others : List Rule) → AreSame rules others → AreSame (without_rule rule rules) (without_rule rule others)
same_without rule rules others same = without_shape rule rules ∙ ap (without_rule rule) same ∙ sym (without_shape rule others)

with_by : (rule other : Rule) (rules : List Rule) (b : Bool) → map without_id (with_rule rule rules) ≡ with_rule (without_id rule) (map without_id rules) → map without_id (cond b (rule ∷ (other ∷ rules)) (other ∷ with_rule rule rules)) ≡ cond b (without_id rule ∷ (without_id other ∷ map without_id rules)) (without_id other ∷ with_rule (without_id rule) (map without_id rules))
with_by rule other rules true rest = refl
with_by rule other rules false rest = ap (λ xs. without_id other ∷ xs) rest

with_shape : (rule : Rule) (rules : List Rule) → map without_id (with_rule rule rules) ≡ with_rule (without_id rule) (map without_id rules)
with_shape rule [] = refl
with_shape rule (other ∷ rules) = with_by rule other rules (has_lower_priority rule other) (with_shape rule rules)

-- a rule of the highest id goes behind the others of its priority
as_lower : (id : ℕ) (rule other : Rule) → other.id < id → is_before (numbered id rule) other ≡ has_lower_priority rule other
as_lower id rule other older = grind (arith, nat_tests)

put_shape : (id : ℕ) (rule : Rule) (rules : List Rule) → Each (λ (other : Rule). other.id < id) rules → map without_id (insert_by is_before (numbered id rule) rules) ≡ with_rule (without_id rule) (map without_id rules)
put_shape id rule [] lower = refl
put_shape id rule (other ∷ rules) lower =
    ap (λ b. map without_id (cond b (numbered id rule ∷ (other ∷ rules)) (other ∷ insert_by is_before (numbered id rule) rules))) (as_lower id rule other lower.0)
    ∙ by (has_lower_priority rule other) (put_shape id rule rules lower.1)
  where
    by : (b : Bool) → map without_id (insert_by is_before (numbered id rule) rules) ≡ with_rule (without_id rule) (map without_id rules) → map without_id (cond b (numbered id rule ∷ (other ∷ rules)) (other ∷ insert_by is_before (numbered id rule) rules)) ≡ cond b (without_id rule ∷ (without_id other ∷ map without_id rules)) (without_id other ∷ with_rule (without_id rule) (map without_id rules))
    by true rest = refl
    by false rest = ap (λ xs. without_id other ∷ xs) rest

pub same_put : (id : ℕ) (rule : Rule) (rules others : List Rule) → Each (λ (other : Rule). other.id < id) rules → AreSame rules others → AreSame (insert_by is_before (numbered id rule) rules) (with_rule rule others)
same_put id rule rules others lower same = put_shape id rule rules lower ∙ ap (with_rule (without_id rule)) same ∙ sym (with_shape rule others)

-- ---- which rules a list has after it

has_with_by : (rule other x : Rule) (rules : List Rule) (b : Bool) → has_rule x (with_rule rule rules) ≡ (is_same_rule rule x || has_rule x rules) → has_rule x (cond b (rule ∷ (other ∷ rules)) (other ∷ with_rule rule rules)) ≡ (is_same_rule rule x || has_rule x (other ∷ rules))
has_with_by rule other x rules true rest = refl
has_with_by rule other x rules false rest = ap (λ b. is_same_rule other x || b) rest ∙ swapped (is_same_rule other x) (is_same_rule rule x) (has_rule x rules)
  where
    swapped : (a b c : Bool) → (a || (b || c)) ≡ (b || (a || c))
    swapped true true c = refl
    swapped true false c = refl
    swapped false b c = refl

pub has_with : (rule x : Rule) (rules : List Rule) → has_rule x (with_rule rule rules) ≡ (is_same_rule rule x || has_rule x rules)
has_with rule x [] = refl
has_with rule x (other ∷ rules) = has_with_by rule other x rules (has_lower_priority rule other) (has_with rule x rules)

has_without_by : (rule other x : Rule) (rules : List Rule) (s t u : Bool) → is_same_rule other rule ≡ s → is_same_rule other x ≡ t → is_same_rule rule x ≡ u → has_rule x (without_rule rule rules) ≡ (not u && has_rule x rules) → has_rule x (cond (not s) (other ∷ without_rule rule rules) (without_rule rule rules)) ≡ (not u && (t || has_rule x rules))
has_without_by rule other x rules true true true is t_is u_is rest = rest
has_without_by rule other x rules true true false is t_is u_is rest = differ (sym t_is ∙ like_left other rule x is ∙ u_is)
has_without_by rule other x rules true false true is t_is u_is rest = rest
has_without_by rule other x rules true false false is t_is u_is rest = rest
has_without_by rule other x rules false true true is t_is u_is rest = differ (sym u_is ∙ same_both_ways rule x ∙ sym (like_left other x rule t_is) ∙ is)
has_without_by rule other x rules false true false is t_is u_is rest = ap (λ b. b || has_rule x (without_rule rule rules)) t_is
has_without_by rule other x rules false false true is t_is u_is rest = ap (λ b. b || has_rule x (without_rule rule rules)) t_is ∙ rest
has_without_by rule other x rules false false false is t_is u_is rest = ap (λ b. b || has_rule x (without_rule rule rules)) t_is ∙ rest

pub has_without : (rule x : Rule) (rules : List Rule) → has_rule x (without_rule rule rules) ≡ (not (is_same_rule rule x) && has_rule x rules)
has_without rule x [] = nothing (is_same_rule rule x)
  where
    nothing : (b : Bool) → false ≡ (not b && false)
    nothing true = refl
    nothing false = refl
has_without rule x (other ∷ rules) =
    has_without_by rule other x rules (is_same_rule other rule) (is_same_rule other x) (is_same_rule rule x) refl refl refl (has_without rule x rules)
    ∙ refl

-- ---- which rule a deletion takes

pub record IsTaken (rule : Rule) (rules : List Rule) : Type 0 where
  pub front : List Rule
  pub one : Rule
  pub back : List Rule
  pub are : rules ≡ front ++ one ∷ back
  pub none : Each (λ other. takes rule other ≡ false) front
  pub same : is_same_rule one rule ≡ true

taken_by : (rule other : Rule) (rules : List Rule) (b : Bool) → takes rule other ≡ b → (is_first_taken rule rules ≡ true → IsTaken rule rules) → (if b then is_same_rule other rule else is_first_taken rule rules) ≡ true → IsTaken rule (other ∷ rules)
taken_by rule other rules true is later first = record { front = []; one = other; back = rules; are = refl; none = tt; same = first }
taken_by rule other rules false is later first =
    let rest = later first in
    record { front = other ∷ rest.front; one = rest.one; back = rest.back; are = ap (λ xs. other ∷ xs) rest.are; none = (is, rest.none); same = rest.same }

pub taken_at : (rule : Rule) (rules : List Rule) → is_first_taken rule rules ≡ true → IsTaken rule rules
taken_at rule [] first = differ (sym first)
taken_at rule (other ∷ rules) first = taken_by rule other rules (takes rule other) refl (taken_at rule rules) first
