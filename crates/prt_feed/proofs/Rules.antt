-- Rules that are the same except for ids stay so, whatever a command does to both.
use Rattle.std.proofs.Common.{◌≡◌, ℕ, ◌<◌, Bool, true, false, not, ◌||◌, List, [], ◌∷◌, Option, Some, None, map, refl, sym, ap, ◌∙◌, subst, arith, cond}
use Rattle.std.specs.Prelude.{◌==◌, filter, find, nat_lt, option_map}
use Rattle.std.specs.List.{list_any, AllByRecursion as Each, IsDistinct}
use Rattle.std.proofs.lemmas.Bool.Decides.{nat_tests}
use Rattle.prt_addr.specs.Order.{insert_by}
use Rattle.prt_addr.proofs.Each.{each_implies}
use Rattle.prt_rule.specs.Rule.{auto_priority, is_before}
use Rattle.prt_rule.specs.declared.rule.Rule.{Rule}
use Rattle.prt_dump.specs.PutBack.{without_id}

-- rules without their ids
abbrev pub bare : List Rule → List Rule
bare rules = map without_id rules

-- ---- tests that don't look at ids

any_bare : (p q : Rule → Bool) → ((rule : Rule) → p rule ≡ q (without_id rule)) → (rules : List Rule) → list_any p rules ≡ list_any q (bare rules)
any_bare p q alike [] = refl
any_bare p q alike (rule ∷ rules) = ap (λ b. b || list_any p rules) (alike rule) ∙ ap (λ b. q (without_id rule) || b) (any_bare p q alike rules)

-- the same tests pass among rules that are the same except for ids
pub any_same : (p q r : Rule → Bool) → ((rule : Rule) → p rule ≡ r (without_id rule)) → ((rule : Rule) → q rule ≡ r (without_id rule)) → (rules others : List Rule) → bare rules ≡ bare others → list_any p rules ≡ list_any q others
any_same p q r alike alike_too rules others same = any_bare p r alike rules ∙ ap (list_any r) same ∙ sym (any_bare q r alike_too others)

found_by : (rule : Rule) (b : Bool) (o : Option Rule) → option_map without_id (cond b (Some rule) o) ≡ cond b (Some (without_id rule)) (option_map without_id o)
found_by rule true o = refl
found_by rule false o = refl

found_bare : (p : Rule → Bool) → ((rule : Rule) → p rule ≡ p (without_id rule)) → (rules : List Rule) → option_map without_id (find p rules) ≡ find p (bare rules)
found_bare p alike [] = refl
found_bare p alike (rule ∷ rules) =
    found_by rule (p rule) (find p rules)
    ∙ ap (λ b. cond b (Some (without_id rule)) (option_map without_id (find p rules))) (alike rule)
    ∙ ap (λ o. cond (p (without_id rule)) (Some (without_id rule)) o) (found_bare p alike rules)

-- A rule that is found.
pub record IsFound (o : Option Rule) : Type 0 where
  pub rule : Rule
  pub is : o ≡ Some rule

found_one : (o : Option Rule) (rule : Rule) → option_map without_id o ≡ Some rule → IsFound o
found_one None rule is = absurd cc
found_one (Some other) rule is = record { rule = other; is = refl }

-- if one is found among the one rules, one is found among the others
pub found_too : (p : Rule → Bool) → ((rule : Rule) → p rule ≡ p (without_id rule)) → (rules others : List Rule) → bare rules ≡ bare others → (rule : Rule) → find p others ≡ Some rule → IsFound (find p rules)
found_too p alike rules others same rule is =
    found_one (find p rules) (without_id rule) (found_bare p alike rules ∙ ap (find p) same ∙ sym (found_bare p alike others) ∙ ap (option_map without_id) is)

kept_by : (rule : Rule) (rules : List Rule) (b : Bool) → bare (cond b (rule ∷ rules) rules) ≡ cond b (without_id rule ∷ bare rules) (bare rules)
kept_by rule rules true = refl
kept_by rule rules false = refl

filtered_bare : (p : Rule → Bool) → ((rule : Rule) → p rule ≡ p (without_id rule)) → (rules : List Rule) → bare (filter p rules) ≡ filter p (bare rules)
filtered_bare p alike [] = refl
filtered_bare p alike (rule ∷ rules) =
    kept_by rule (filter p rules) (p rule)
    ∙ ap (λ b. cond b (without_id rule ∷ bare (filter p rules)) (bare (filter p rules))) (alike rule)
    ∙ ap (λ others. cond (p (without_id rule)) (without_id rule ∷ others) others) (filtered_bare p alike rules)

-- those that pass a test
pub filtered_same : (p : Rule → Bool) → ((rule : Rule) → p rule ≡ p (without_id rule)) → (rules others : List Rule) → bare rules ≡ bare others → bare (filter p rules) ≡ bare (filter p others)
filtered_same p alike rules others same = filtered_bare p alike rules ∙ ap (filter p) same ∙ sym (filtered_bare p alike others)

-- the automatic priority
auto_bare : (rules : List Rule) → auto_priority rules ≡ auto_priority (bare rules)
auto_bare [] = refl
auto_bare (first ∷ []) = refl
auto_bare (first ∷ second ∷ rules) = refl

pub auto_same : (rules others : List Rule) → bare rules ≡ bare others → auto_priority rules ≡ auto_priority others
auto_same rules others same = auto_bare rules ∙ ap auto_priority same ∙ sym (auto_bare others)

-- ---- without the first that passes a test

abbrev without_first : (Rule → Bool) → List Rule → List Rule
without_first p [] = []
without_first p (rule ∷ rules) = cond (p rule) rules (rule ∷ without_first p rules)

left_by : (rule : Rule) (rules left : List Rule) (b : Bool) → bare (cond b rules (rule ∷ left)) ≡ cond b (bare rules) (without_id rule ∷ bare left)
left_by rule rules left true = refl
left_by rule rules left false = refl

left_bare : (p : Rule → Bool) → ((rule : Rule) → p rule ≡ p (without_id rule)) → (rules : List Rule) → bare (without_first p rules) ≡ without_first p (bare rules)
left_bare p alike [] = refl
left_bare p alike (rule ∷ rules) =
    left_by rule rules (without_first p rules) (p rule)
    ∙ ap (λ b. cond b (bare rules) (without_id rule ∷ bare (without_first p rules))) (alike rule)
    ∙ ap (λ others. cond (p (without_id rule)) (bare rules) (without_id rule ∷ others)) (left_bare p alike rules)

-- what holds of each holds of one that is found
of_found_by : (P : Rule → Type 0) (rule found : Rule) (o : Option Rule) (b : Bool) → P rule → (o ≡ Some found → P found) → cond b (Some rule) o ≡ Some found → P found
of_found_by P rule found o true held rest is = let same : rule ≡ found = cc in subst P same held
of_found_by P rule found o false held rest is = rest is

of_found : (P : Rule → Type 0) (p : Rule → Bool) (rules : List Rule) (found : Rule) → Each P rules → find p rules ≡ Some found → P found
of_found P p [] found each is = absurd cc
of_found P p (rule ∷ rules) found each is = of_found_by P rule found (find p rules) (p rule) each.0 (of_found P p rules found each.1) is

all_kept : (p : Rule → Bool) (rules : List Rule) → Each (λ rule. p rule ≡ false) rules → filter (λ rule. not (p rule)) rules ≡ rules
all_kept p [] fails = refl
all_kept p (rule ∷ rules) fails =
    ap (λ b. cond (not b) (rule ∷ filter (λ rule. not (p rule)) rules) (filter (λ rule. not (p rule)) rules)) fails.0
    ∙ ap (λ others. rule ∷ others) (all_kept p rules fails.1)

own_id : (n : ℕ) → (n == n) ≡ true
own_id n = grind (arith, nat_tests)

turned : (m n : ℕ) → (m == n) ≡ false → (n == m) ≡ false
turned m n h = grind (arith, nat_tests)

abbrev has_other_id : ℕ → Rule → Bool
has_other_id id rule = not (rule.id == id)

-- without the first rule itself
head_left : (rule : Rule) (rules : List Rule) → Each (λ (other : Rule). (rule.id == other.id) ≡ false) rules → filter (has_other_id rule.id) (rule ∷ rules) ≡ rules
head_left rule rules others =
    ap (λ b. cond (not b) (rule ∷ filter (has_other_id rule.id) rules) (filter (has_other_id rule.id) rules)) (own_id rule.id)
    ∙ all_kept (λ (other : Rule). other.id == rule.id) rules (each_implies (λ (other : Rule). (rule.id == other.id) ≡ false) (λ (other : Rule). (other.id == rule.id) ≡ false) (λ other h. turned rule.id other.id h) rules others)

dropped_by : (p : Rule → Bool) (rule : Rule) (rules : List Rule) (found : Rule) (b : Bool) → Each (λ (other : Rule). (rule.id == other.id) ≡ false) rules → (find p rules ≡ Some found → filter (has_other_id found.id) rules ≡ without_first p rules) → cond b (Some rule) (find p rules) ≡ Some found → filter (has_other_id found.id) (rule ∷ rules) ≡ cond b rules (rule ∷ without_first p rules)
dropped_by p rule rules found true others rest is =
    let same : rule ≡ found = cc in
    subst (λ (one : Rule). filter (has_other_id one.id) (rule ∷ rules) ≡ rules) same (head_left rule rules others)
dropped_by p rule rules found false others rest is =
    ap (λ b. cond (not b) (rule ∷ filter (has_other_id found.id) rules) (filter (has_other_id found.id) rules)) (of_found (λ (other : Rule). (rule.id == other.id) ≡ false) p rules found others is)
    ∙ ap (λ left. rule ∷ left) (rest is)

-- if ids are distinct, the rules without one that was found are those without the first that passes
dropped : (p : Rule → Bool) (rules : List Rule) (found : Rule) → IsDistinct (λ (a : Rule) (b : Rule). a.id == b.id) rules → find p rules ≡ Some found → filter (has_other_id found.id) rules ≡ without_first p rules
unfolding IsDistinct
dropped p [] found apart is = refl
dropped p (rule ∷ rules) found apart is = dropped_by p rule rules found (p rule) apart.0 (dropped p rules found apart.1) is

-- each without the one that was found by the same test
pub dropped_same : (p : Rule → Bool) → ((rule : Rule) → p rule ≡ p (without_id rule)) → (rules others : List Rule) (found other : Rule) → bare rules ≡ bare others → IsDistinct (λ (a : Rule) (b : Rule). a.id == b.id) rules → IsDistinct (λ (a : Rule) (b : Rule). a.id == b.id) others → find p rules ≡ Some found → find p others ≡ Some other → bare (filter (λ (rule : Rule). not (rule.id == found.id)) rules) ≡ bare (filter (λ (rule : Rule). not (rule.id == other.id)) others)
dropped_same p alike rules others found other same apart others_apart is other_is =
    ap bare (dropped p rules found apart is)
    ∙ left_bare p alike rules
    ∙ ap (without_first p) same
    ∙ sym (left_bare p alike others)
    ∙ sym (ap bare (dropped p others other others_apart other_is))

-- ---- one more, with the highest id

abbrev comes_first : Rule → Rule → Bool
comes_first rule other = nat_lt rule.priority other.priority

by_priority : (new rule : Rule) → rule.id < new.id → is_before new rule ≡ comes_first (without_id new) (without_id rule)
by_priority new rule older = grind (arith, nat_tests)

put_by : (new rule : Rule) (rules placed : List Rule) (b : Bool) → bare (cond b (new ∷ rule ∷ rules) (rule ∷ placed)) ≡ cond b (without_id new ∷ without_id rule ∷ bare rules) (without_id rule ∷ bare placed)
put_by new rule rules placed true = refl
put_by new rule rules placed false = refl

put_bare : (new : Rule) (rules : List Rule) → Each (λ (rule : Rule). rule.id < new.id) rules → bare (insert_by is_before new rules) ≡ insert_by comes_first (without_id new) (bare rules)
put_bare new [] older = refl
put_bare new (rule ∷ rules) older =
    put_by new rule rules (insert_by is_before new rules) (is_before new rule)
    ∙ ap (λ b. cond b (without_id new ∷ without_id rule ∷ bare rules) (without_id rule ∷ bare (insert_by is_before new rules))) (by_priority new rule older.0)
    ∙ ap (λ others. cond (comes_first (without_id new) (without_id rule)) (without_id new ∷ without_id rule ∷ bare rules) (without_id rule ∷ others)) (put_bare new rules older.1)

-- the same rule except for its id, put into each
pub put_same : (new other : Rule) (rules others : List Rule) → without_id new ≡ without_id other → bare rules ≡ bare others → Each (λ (rule : Rule). rule.id < new.id) rules → Each (λ (rule : Rule). rule.id < other.id) others → bare (insert_by is_before new rules) ≡ bare (insert_by is_before other others)
put_same new other rules others alike same older others_older =
    put_bare new rules older
    ∙ ap (λ rule. insert_by comes_first rule (bare rules)) alike
    ∙ ap (insert_by comes_first (without_id other)) same
    ∙ sym (put_bare other others others_older)
