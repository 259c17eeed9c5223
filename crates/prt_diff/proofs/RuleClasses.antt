-- Rules that are sorted by priority are known by those of each priority.
use Rattle.std.proofs.Common.{◌≡◌, ◌⊎◌, inl, inr, ℕ, ◌<◌, ◌≤◌, Bool, true, false, List, [], ◌∷◌, map, refl, sym, ap, ◌∙◌, arith, cond}
use Rattle.std.specs.Prelude.{◌==◌}
use Rattle.std.specs.List.{AllByRecursion as Each}
use Rattle.std.proofs.lemmas.Bool.{eq-eqb, ne_eqb}
use Rattle.std.proofs.lemmas.Bool.Decides.{nat_tests}
use Rattle.prt_addr.specs.Rising.{IsRising}
use Rattle.prt_addr.proofs.Each.{each_implies}
use Rattle.prt_rule.specs.Rule.{is_before}
use Rattle.prt_rule.specs.declared.rule.Rule.{Rule}
use Rattle.prt_diff.specs.Between.{AreSame}
use Rattle.prt_diff.specs.Rules.{rules_at, without_id}
use Rattle.prt_diff.proofs.Members.{none_pass}

-- ---- sorted by priority

-- no priority is lower than one before it
abbrev pub RisesByPriority : List Rule → Type 0
RisesByPriority [] = Unit {0}
RisesByPriority (rule ∷ rules) = Each (λ (other : Rule). rule.priority ≤ other.priority) rules × RisesByPriority rules

not_lower : (rule other : Rule) → is_before rule other ≡ true → rule.priority ≤ other.priority
not_lower rule other ahead = grind (arith, nat_tests, ahead)

pub rises_by_priority : (rules : List Rule) → IsRising is_before rules → RisesByPriority rules
rises_by_priority [] rises = tt
rises_by_priority (rule ∷ rules) rises = (each_implies (λ other. is_before rule other ≡ true) (λ (other : Rule). rule.priority ≤ other.priority) (not_lower rule) rules rises.0, rises_by_priority rules rises.1)

abbrev pub AreSameAtEach : List Rule → List Rule → Type 0
AreSameAtEach rules others = (priority : ℕ) → AreSame (rules_at priority rules) (rules_at priority others)

at_its_own : (rule : Rule) (rules : List Rule) → rules_at rule.priority (rule ∷ rules) ≡ rule ∷ rules_at rule.priority rules
at_its_own rule rules = ap (λ b. cond b (rule ∷ rules_at rule.priority rules) (rules_at rule.priority rules)) (eq-eqb rule.priority rule.priority refl)

pub none_below : (priority : ℕ) (rule : Rule) (rules : List Rule) → priority < rule.priority → RisesByPriority (rule ∷ rules) → rules_at priority (rule ∷ rules) ≡ []
none_below priority rule rules below rises =
    none_pass (λ (other : Rule). other.priority == priority) (rule ∷ rules) (
      ne_eqb rule.priority priority (λ same. absurd (omega arith)),
      each_implies (λ (other : Rule). rule.priority ≤ other.priority) (λ (other : Rule). (other.priority == priority) ≡ false) (λ other above. ne_eqb other.priority priority (λ same. absurd (omega arith))) rules rises.0,
    )

not_nothing : (rule : Rule) (rules : List Rule) → (map without_id (rule ∷ rules) ≡ []) → ⊥
not_nothing rule rules is = cc

-- the first of one isn't of a lower priority than the first of the other
not_first : (rule other : Rule) (rules others : List Rule) → RisesByPriority (other ∷ others) → AreSameAtEach (rule ∷ rules) (other ∷ others) → (rule.priority < other.priority) → ⊥
not_first rule other rules others rises same lower =
    not_nothing rule (rules_at rule.priority rules)
    (ap (map without_id) (sym (at_its_own rule rules)) ∙ same rule.priority ∙ ap (map without_id) (none_below rule.priority other others lower rises))

same_head : (a b : Rule) (rules others : List Rule) → AreSame (a ∷ rules) (b ∷ others) → without_id a ≡ without_id b
same_head a b rules others same = cc

same_tail : (a b : Rule) (rules others : List Rule) → AreSame (a ∷ rules) (b ∷ others) → AreSame rules others
same_tail a b rules others same = cc

-- if both have a first of the same priority, the others are the same too
others_by : (priority : ℕ) (a b : Rule) (rules others : List Rule) (p q : Bool) → p ≡ q → AreSame (cond p (a ∷ rules_at priority rules) (rules_at priority rules)) (cond q (b ∷ rules_at priority others) (rules_at priority others)) → AreSame (rules_at priority rules) (rules_at priority others)
others_by priority a b rules others true true is same = same_tail a b (rules_at priority rules) (rules_at priority others) same
others_by priority a b rules others true false is same = absurd cc
others_by priority a b rules others false true is same = absurd cc
others_by priority a b rules others false false is same = same

equal_priorities : (m n : ℕ) → (m < n → ⊥) → (n < m → ⊥) → m ≡ n
equal_priorities m n up down = by m n up down (tells m n)
  where
    tells : (m n : ℕ) → (m < n) ⊎ ((n < m) ⊎ (m ≡ n))
    tells m n = grind (arith, nat_tests)

    by : (m n : ℕ) → (m < n → ⊥) → (n < m → ⊥) → (m < n) ⊎ ((n < m) ⊎ (m ≡ n)) → m ≡ n
    by m n up down (inl h) = absurd (up h)
    by m n up down (inr (inl h)) = absurd (down h)
    by m n up down (inr (inr h)) = h

turned : (rules others : List Rule) → AreSameAtEach rules others → AreSameAtEach others rules
turned rules others same = λ priority. sym (same priority)

first_at : (a b : Rule) (rules others : List Rule) → a.priority ≡ b.priority → AreSameAtEach (a ∷ rules) (b ∷ others) → AreSame (a ∷ rules_at a.priority rules) (b ∷ rules_at a.priority others)
first_at a b rules others equal same =
    ap (map without_id) (sym (at_its_own a rules)) ∙ same a.priority
    ∙ ap (λ p. map without_id (cond p (b ∷ rules_at a.priority others) (rules_at a.priority others))) (eq-eqb b.priority a.priority (sym equal))

pub same_by_priority : (rules others : List Rule) → RisesByPriority rules → RisesByPriority others → AreSameAtEach rules others → AreSame rules others
same_by_priority [] [] rises others_rise same = refl
same_by_priority [] (b ∷ others) rises others_rise same = absurd (not_nothing b (rules_at b.priority others) (ap (map without_id) (sym (at_its_own b others)) ∙ sym (same b.priority)))
same_by_priority (a ∷ rules) [] rises others_rise same = absurd (not_nothing a (rules_at a.priority rules) (ap (map without_id) (sym (at_its_own a rules)) ∙ same a.priority))
same_by_priority (a ∷ rules) (b ∷ others) rises others_rise same =
    let equal : a.priority ≡ b.priority = equal_priorities a.priority b.priority (not_first a b rules others others_rise same) (not_first b a others rules rises (turned (a ∷ rules) (b ∷ others) same)) in
    let first : without_id a ≡ without_id b = same_head a b (rules_at a.priority rules) (rules_at a.priority others) (first_at a b rules others equal same) in
    let rest : AreSame rules others = same_by_priority rules others rises.1 others_rise.1 (λ priority. others_by priority a b rules others (a.priority == priority) (b.priority == priority) (ap (λ n. n == priority) equal) (same priority)) in
    ap (λ rule. rule ∷ map without_id rules) first ∙ ap (λ rules. without_id b ∷ rules) rest
