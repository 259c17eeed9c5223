-- The rules of each priority after all additions and deletions.
use Rattle.std.proofs.Common.{◌≡◌, inl, inr, ℕ, ◌<◌, ◌≤◌, Bool, true, false, not, ◌&&◌, ◌||◌, List, [], ◌∷◌, ◌++◌, map, refl, sym, ap, ◌∙◌, subst, append_assoc, arith, cond}
use Rattle.std.specs.Prelude.{filter, ◌==◌, if◌then◌else◌}
use Rattle.std.specs.List.{AllByRecursion as Each, IsDistinct}
use Rattle.std.proofs.lemmas.Bool.{eqb-true}
use Rattle.std.proofs.lemmas.Bool.Decides.{nat_tests}
use Rattle.std.proofs.lemmas.List.{append-nil}
use Rattle.std.proofs.lemmas.List.Elements.{filter-append}
use Rattle.prt_addr.proofs.Each.{any_none, each_fails, each_filtered, each_implies}
use Rattle.prt_addr.proofs.Orders.{each_inserted}
use Rattle.prt_rule.specs.Same.{is_same_rule}
use Rattle.prt_rule.specs.declared.rule.Rule.{Rule}
use Rattle.prt_rule.proofs.SameRules.{rules_same, same_both_ways}
use Rattle.prt_version.specs.Change.{has_rule}
use Rattle.prt_diff.specs.Between.{AreSame}
use Rattle.prt_diff.specs.Plan.{Plan, bring_all, brought, clear_all, cleared, remove_all, removed}
use Rattle.prt_diff.specs.Rules.{has_lower_priority, rules_at, stays, with_rule, without_id, without_rule}
use Rattle.prt_diff.proofs.End.{stays_has}
use Rattle.prt_diff.proofs.HasRule.{like_left, numbered}
use Rattle.prt_diff.proofs.Members.{IsIn, all_pass, differ, each_in, each_of, false_by, filtered_twice, none_pass}
use Rattle.prt_diff.proofs.PlanSteps.{bring_left, brought_cases, cleared_cases, has_last, remove_left, removed_cases}
use Rattle.prt_diff.proofs.RuleClasses.{RisesByPriority, none_below}

-- ---- filters

pub filter_same : {X : Type 0} (p q : X → Bool) (xs : List X) → ((x : X) → IsIn x xs → p x ≡ q x) → filter p xs ≡ filter q xs
filter_same p q [] same = refl
filter_same p q (x ∷ xs) same = ap (λ b. cond b (x ∷ filter p xs) (filter p xs)) (same x (inl refl)) ∙ ap (λ ys. cond (q x) (x ∷ ys) ys) (filter_same p q xs (λ y within. same y (inr within)))

and_swapped : (a b : Bool) → (a && b) ≡ (b && a)
and_swapped true true = refl
and_swapped true false = refl
and_swapped false true = refl
and_swapped false false = refl

pub filters_commute : {X : Type 0} (p q : X → Bool) (xs : List X) → filter p (filter q xs) ≡ filter q (filter p xs)
filters_commute p q xs = filtered_twice q p xs ∙ filter_same (λ x. q x && p x) (λ x. p x && q x) xs (λ x within. and_swapped (q x) (p x)) ∙ sym (filtered_twice p q xs)

-- ---- without some rules

abbrev pub minus : List Rule → List Rule → List Rule
minus todo rules = filter (λ rule. not (has_rule rule todo)) rules

neither : (a b : Bool) → (not a && not b) ≡ not (a || b)
neither true b = refl
neither false b = refl

pub without_minus : (rule : Rule) (todo rules : List Rule) → minus todo (without_rule rule rules) ≡ minus (rule ∷ todo) rules
without_minus rule todo rules =
    filtered_twice (λ other. not (is_same_rule other rule)) (λ x. not (has_rule x todo)) rules
    ∙ filter_same (λ x. not (is_same_rule x rule) && not (has_rule x todo)) (λ x. not (has_rule x (rule ∷ todo))) rules
    (λ x within. ap (λ b. not b && not (has_rule x todo)) (same_both_ways x rule) ∙ neither (is_same_rule rule x) (has_rule x todo))

pub minus_nothing : (rules : List Rule) → minus [] rules ≡ rules
minus_nothing rules = all_pass (λ x. not (has_rule x [])) rules (each_of (λ x. not (has_rule x []) ≡ true) (λ x. refl) rules)

-- ---- if no rule is left

abbrev pub place_all : List Rule → List Rule → List Rule
place_all [] rules = rules
place_all (rule ∷ todo) rules = place_all todo (with_rule rule (without_rule rule rules))

abbrev pub drop_all : List Rule → List Rule → List Rule
drop_all [] rules = rules
drop_all (rule ∷ todo) rules = drop_all todo (without_rule rule rules)

pub drops_all : (todo rules : List Rule) → drop_all todo rules ≡ minus todo rules
drops_all [] rules = sym (minus_nothing rules)
drops_all (rule ∷ todo) rules = drops_all todo (without_rule rule rules) ∙ without_minus rule todo rules

pub without_absent : (rule : Rule) (rules : List Rule) → has_rule rule rules ≡ false → without_rule rule rules ≡ rules
without_absent rule rules absent = all_pass (λ other. not (is_same_rule other rule)) rules (each_implies (λ other. is_same_rule other rule ≡ false) (λ other. not (is_same_rule other rule) ≡ true) (λ other fails. ap not fails) rules (each_fails (λ other. is_same_rule other rule) rules absent))

brought_places : (rule : Rule) (plan : Plan) → has_rule rule (brought rule plan).left ≡ false → (brought rule plan).rules ≡ with_rule rule (without_rule rule plan.rules)
brought_places rule plan =
    brought_cases (λ q. has_rule rule q.left ≡ false → q.rules ≡ with_rule rule (without_rule rule plan.rules)) rule plan
    (λ has first told. refl)
    (λ has first told. differ (sym (has_last rule plan.left) ∙ told))
    (λ absent told. ap (with_rule rule) (sym (without_absent rule plan.rules absent)))

pub bring_places : (rules : List Rule) (plan : Plan) → ((x : Rule) → has_rule x (bring_all rules plan).left ≡ false) → (bring_all rules plan).rules ≡ place_all rules plan.rules
bring_places [] plan none = refl
bring_places (rule ∷ rules) plan none =
    bring_places rules (brought rule plan) none
    ∙ ap (place_all rules) (brought_places rule plan (false_by (has_rule rule (brought rule plan).left) (λ told. differ (sym (bring_left rule rules (brought rule plan) told) ∙ none rule))))

removed_drops : (rule : Rule) (plan : Plan) → has_rule rule (removed rule plan).left ≡ false → (removed rule plan).rules ≡ without_rule rule plan.rules
removed_drops rule plan =
    removed_cases (λ q. has_rule rule q.left ≡ false → q.rules ≡ without_rule rule plan.rules) rule plan
    (λ first told. refl)
    (λ first told. differ (sym (has_last rule plan.left) ∙ told))

pub remove_drops : (rules : List Rule) (plan : Plan) → ((x : Rule) → has_rule x (remove_all rules plan).left ≡ false) → (remove_all rules plan).rules ≡ drop_all rules plan.rules
remove_drops [] plan none = refl
remove_drops (rule ∷ rules) plan none =
    remove_drops rules (removed rule plan) none
    ∙ ap (drop_all rules) (removed_drops rule plan (false_by (has_rule rule (removed rule plan).left) (λ told. differ (sym (remove_left rule rules (removed rule plan) told) ∙ none rule))))

-- ---- sorted by priority

lower_is_less : (rule other : Rule) → has_lower_priority rule other ≡ true → rule.priority < other.priority
lower_is_less rule other is = grind (arith, nat_tests, is)

other_is_no_less : (rule other : Rule) → has_lower_priority rule other ≡ false → other.priority ≤ rule.priority
other_is_no_less rule other is = grind (arith, nat_tests, is)

rises_by : (rule other : Rule) (rules : List Rule) (b : Bool) → has_lower_priority rule other ≡ b → RisesByPriority (other ∷ rules) → RisesByPriority (with_rule rule rules) → RisesByPriority (cond b (rule ∷ (other ∷ rules)) (other ∷ with_rule rule rules))
rises_by rule other rules true is rises rest =
    let less = lower_is_less rule other is in
    ((omega (arith, less), each_implies (λ (x : Rule). other.priority ≤ x.priority) (λ (x : Rule). rule.priority ≤ x.priority) (λ x above. omega (arith, less, above)) rules rises.0), rises)
rises_by rule other rules false is rises rest = (each_inserted (λ (x : Rule). other.priority ≤ x.priority) has_lower_priority rule rules (other_is_no_less rule other is) rises.0, rest)

pub rises_with : (rule : Rule) (rules : List Rule) → RisesByPriority rules → RisesByPriority (with_rule rule rules)
rises_with rule [] rises = (tt, tt)
rises_with rule (other ∷ rules) rises = rises_by rule other rules (has_lower_priority rule other) refl rises (rises_with rule rules rises.1)

filtered_by : (p : Rule → Bool) (rule : Rule) (rules : List Rule) (b : Bool) → RisesByPriority (rule ∷ rules) → RisesByPriority (filter p rules) → RisesByPriority (cond b (rule ∷ filter p rules) (filter p rules))
filtered_by p rule rules true rises rest = (each_filtered (λ (x : Rule). rule.priority ≤ x.priority) p rules rises.0, rest)
filtered_by p rule rules false rises rest = rest

pub rises_filtered : (p : Rule → Bool) (rules : List Rule) → RisesByPriority rules → RisesByPriority (filter p rules)
rises_filtered p [] rises = tt
rises_filtered p (rule ∷ rules) rises = filtered_by p rule rules (p rule) rises (rises_filtered p rules rises.1)

pub rises_placed : (todo rules : List Rule) → RisesByPriority rules → RisesByPriority (place_all todo rules)
rises_placed [] rules rises = rises
rises_placed (rule ∷ todo) rules rises = rises_placed todo (with_rule rule (without_rule rule rules)) (rises_with rule (without_rule rule rules) (rises_filtered (λ other. not (is_same_rule other rule)) rules rises))

pub clear_rises : (rules : List Rule) (plan : Plan) → RisesByPriority plan.rules → RisesByPriority (clear_all rules plan).rules
clear_rises [] plan rises = rises
clear_rises (rule ∷ rules) plan rises = clear_rises rules (cleared rule plan) (cleared_cases (λ q. RisesByPriority q.rules) rule plan (λ first. rises_filtered (λ other. not (is_same_rule other rule)) plan.rules rises) rises)

-- ---- the rules of each priority

-- the rule, if it is of this priority
abbrev pub rule_at : ℕ → Rule → List Rule
rule_at priority rule = if rule.priority == priority then rule ∷ [] else []

put_in_front : (priority : ℕ) (new : Rule) (rules : List Rule) (b : Bool) → (new.priority == priority) ≡ b → (b ≡ true → rules_at priority rules ≡ []) → cond b (new ∷ rules_at priority rules) (rules_at priority rules) ≡ rules_at priority rules ++ cond b (new ∷ []) []
put_in_front priority new rules true is none = ap (λ xs. new ∷ xs) (none refl) ∙ ap (λ xs. xs ++ new ∷ []) (sym (none refl))
put_in_front priority new rules false is none = sym (append-nil (rules_at priority rules))

put_behind : (priority : ℕ) (new rule : Rule) (rules : List Rule) (b : Bool) → rules_at priority (with_rule new rules) ≡ rules_at priority rules ++ rule_at priority new → cond b (rule ∷ rules_at priority (with_rule new rules)) (rules_at priority (with_rule new rules)) ≡ cond b (rule ∷ rules_at priority rules) (rules_at priority rules) ++ rule_at priority new
put_behind priority new rule rules true rest = ap (λ xs. rule ∷ xs) rest
put_behind priority new rule rules false rest = rest

put_by : (priority : ℕ) (new rule : Rule) (rules : List Rule) (b : Bool) → has_lower_priority new rule ≡ b → RisesByPriority (rule ∷ rules) → rules_at priority (with_rule new rules) ≡ rules_at priority rules ++ rule_at priority new → rules_at priority (cond b (new ∷ (rule ∷ rules)) (rule ∷ with_rule new rules)) ≡ rules_at priority (rule ∷ rules) ++ rule_at priority new
put_by priority new rule rules true ahead rises rest =
    put_in_front priority new (rule ∷ rules) (new.priority == priority) refl
    (λ at. none_below priority rule rules (subst (λ n. n < rule.priority) (eqb-true new.priority priority at) (lower_is_less new rule ahead)) rises)
put_by priority new rule rules false after rises rest = put_behind priority new rule rules (rule.priority == priority) rest

pub put_at : (priority : ℕ) (new : Rule) (rules : List Rule) → RisesByPriority rules → rules_at priority (with_rule new rules) ≡ rules_at priority rules ++ rule_at priority new
put_at priority new [] rises = refl
put_at priority new (rule ∷ rules) rises = put_by priority new rule rules (has_lower_priority new rule) refl rises (put_at priority new rules rises.1)

at_first : (priority : ℕ) (rule : Rule) (rules : List Rule) → rules_at priority (rule ∷ rules) ≡ rule_at priority rule ++ rules_at priority rules
at_first priority rule rules = by rule (rules_at priority rules) (rule.priority == priority)
  where
    by : (rule : Rule) (xs : List Rule) (b : Bool) → cond b (rule ∷ xs) xs ≡ cond b (rule ∷ []) [] ++ xs
    by rule xs true = refl
    by rule xs false = refl

one_stays : (rule : Rule) (todo : List Rule) (b : Bool) → has_rule rule todo ≡ false → minus todo (cond b (rule ∷ []) []) ≡ cond b (rule ∷ []) []
one_stays rule todo true absent = ap (λ b. cond (not b) (rule ∷ []) []) absent
one_stays rule todo false absent = refl

pub place_at : (priority : ℕ) (todo rules : List Rule) → RisesByPriority rules → IsDistinct is_same_rule todo → rules_at priority (place_all todo rules) ≡ minus todo (rules_at priority rules) ++ rules_at priority todo
unfolding IsDistinct
place_at priority [] rules rises apart = sym (append-nil (minus [] (rules_at priority rules)) ∙ minus_nothing (rules_at priority rules))
place_at priority (rule ∷ todo) rules rises apart =
    let rest : List Rule = without_rule rule rules in
    let rest_rises : RisesByPriority rest = rises_filtered (λ other. not (is_same_rule other rule)) rules rises in
    let here : List Rule = rules_at priority rules in
    let absent : has_rule rule todo ≡ false = any_none (λ other. is_same_rule other rule) todo (each_implies (λ other. is_same_rule rule other ≡ false) (λ other. is_same_rule other rule ≡ false) (λ other differs. same_both_ways other rule ∙ differs) todo apart.0) in
    place_at priority todo (with_rule rule rest) (rises_with rule rest rest_rises) apart.1
    ∙ ap (λ xs. minus todo xs ++ rules_at priority todo) (put_at priority rule rest rest_rises ∙ ap (λ xs. xs ++ rule_at priority rule) (filters_commute (λ (r : Rule). r.priority == priority) (λ other. not (is_same_rule other rule)) rules))
    ∙ ap (λ xs. xs ++ rules_at priority todo) (filter-append (λ x. not (has_rule x todo)) (without_rule rule here) (rule_at priority rule) ∙ ap (λ xs. xs ++ minus todo (rule_at priority rule)) (without_minus rule todo here) ∙ ap (λ xs. minus (rule ∷ todo) here ++ xs) (one_stays rule todo (rule.priority == priority) absent))
    ∙ append_assoc (minus (rule ∷ todo) here) (rule_at priority rule) (rules_at priority todo)
    ∙ ap (λ xs. minus (rule ∷ todo) here ++ xs) (sym (at_first priority rule todo))

-- ---- those that stay, and then those that come, are those that are wanted

abbrev IsRun : List Rule → List Rule → Type 0
IsRun found wanted = AreSame (filter (λ x. stays x found wanted) found ++ filter (λ x. not (stays x found wanted)) wanted) wanted

run_by : (f w : Rule) (fs ws : List Rule) (b : Bool) → is_same_rule f w ≡ b → Each (λ x. is_same_rule f x ≡ false) fs → Each (λ x. is_same_rule w x ≡ false) ws → IsRun fs ws → IsRun fs (w ∷ ws) → AreSame (filter (λ x. cond b (is_same_rule w x || stays x fs ws) (stays x fs (w ∷ ws))) (f ∷ fs) ++ filter (λ x. not (cond b (is_same_rule w x || stays x fs ws) (stays x fs (w ∷ ws)))) (w ∷ ws)) (w ∷ ws)
run_by f w fs ws true same f_apart w_apart one two =
    let head : (is_same_rule w f || stays f fs ws) ≡ true = ap (λ b. b || stays f fs ws) (same_both_ways w f ∙ same) in
    let itself : (is_same_rule w w || stays w fs ws) ≡ true = ap (λ b. b || stays w fs ws) ((rules_same w w).1 refl) in
    let front : filter (λ x. is_same_rule w x || stays x fs ws) (f ∷ fs) ≡ f ∷ filter (λ x. stays x fs ws) fs =
    ap (λ b. cond b (f ∷ filter (λ x. is_same_rule w x || stays x fs ws) fs) (filter (λ x. is_same_rule w x || stays x fs ws) fs)) head
    ∙ ap (λ xs. f ∷ xs) (filter_same (λ x. is_same_rule w x || stays x fs ws) (λ x. stays x fs ws) fs (λ x within. ap (λ b. b || stays x fs ws) (sym (like_left f w x same) ∙ each_in (λ y. is_same_rule f y ≡ false) x fs f_apart within))) in
    let back : filter (λ x. not (is_same_rule w x || stays x fs ws)) (w ∷ ws) ≡ filter (λ x. not (stays x fs ws)) ws =
    ap (λ b. cond (not b) (w ∷ filter (λ x. not (is_same_rule w x || stays x fs ws)) ws) (filter (λ x. not (is_same_rule w x || stays x fs ws)) ws)) itself
    ∙ filter_same (λ x. not (is_same_rule w x || stays x fs ws)) (λ x. not (stays x fs ws)) ws (λ x within. ap (λ b. not (b || stays x fs ws)) (each_in (λ y. is_same_rule w y ≡ false) x ws w_apart within)) in
    ap (λ xs. map without_id (xs ++ filter (λ x. not (is_same_rule w x || stays x fs ws)) (w ∷ ws))) front
    ∙ ap (λ xs. map without_id (f ∷ (filter (λ x. stays x fs ws) fs ++ xs))) back
    ∙ ap (λ xs. without_id f ∷ xs) one
    ∙ ap (λ x. x ∷ map without_id ws) (ap without_id ((rules_same f w).0 same))
run_by f w fs ws false unlike f_apart w_apart one two =
    let none : stays f fs (w ∷ ws) ≡ false =
    false_by (stays f fs (w ∷ ws))
    (λ is. differ (sym (stays_has f fs (w ∷ ws) is) ∙ any_none (λ other. is_same_rule other f) fs (each_implies (λ other. is_same_rule f other ≡ false) (λ other. is_same_rule other f ≡ false) (λ other differs. same_both_ways other f ∙ differs) fs f_apart))) in
    ap (λ b. map without_id (cond b (f ∷ filter (λ x. stays x fs (w ∷ ws)) fs) (filter (λ x. stays x fs (w ∷ ws)) fs) ++ filter (λ x. not (stays x fs (w ∷ ws))) (w ∷ ws))) none
    ∙ two

pub stays_run : (found wanted : List Rule) → IsDistinct is_same_rule found → IsDistinct is_same_rule wanted → IsRun found wanted
unfolding IsDistinct
stays_run [] wanted apart wanted_apart = ap (map without_id) (all_pass (λ x. not (stays x [] wanted)) wanted (each_of (λ x. not (stays x [] wanted) ≡ true) (λ x. refl) wanted))
stays_run (f ∷ fs) [] apart wanted_apart = ap (λ xs. map without_id (xs ++ [])) (none_pass (λ x. stays x (f ∷ fs) []) (f ∷ fs) (each_of (λ x. stays x (f ∷ fs) [] ≡ false) (λ x. refl) (f ∷ fs)))
stays_run (f ∷ fs) (w ∷ ws) apart wanted_apart = run_by f w fs ws (is_same_rule f w) refl apart.0 wanted_apart.0 (stays_run fs ws apart.1 wanted_apart.1) (stays_run fs (w ∷ ws) apart.1 wanted_apart)

-- ---- which rules stay

wanted_by : (rule first : Rule) (found wanted : List Rule) (b : Bool) → (stays rule found wanted ≡ true → has_rule rule wanted ≡ true) → (stays rule found (first ∷ wanted) ≡ true → has_rule rule (first ∷ wanted) ≡ true) → cond b (is_same_rule first rule || stays rule found wanted) (stays rule found (first ∷ wanted)) ≡ true → has_rule rule (first ∷ wanted) ≡ true
wanted_by rule first found wanted true one two is = by (is_same_rule first rule) is
  where
    by : (s : Bool) → (s || stays rule found wanted) ≡ true → (s || has_rule rule wanted) ≡ true
    by true h = refl
    by false h = one h
wanted_by rule first found wanted false one two is = two is

pub stays_wanted : (rule : Rule) (found wanted : List Rule) → stays rule found wanted ≡ true → has_rule rule wanted ≡ true
stays_wanted rule [] wanted is = differ (sym is)
stays_wanted rule (other ∷ found) [] is = is
stays_wanted rule (other ∷ found) (first ∷ wanted) is = wanted_by rule first found wanted (is_same_rule other first) (stays_wanted rule found wanted) (stays_wanted rule found (first ∷ wanted)) is

same_head : (a b : Rule) (rules others : List Rule) → AreSame (a ∷ rules) (b ∷ others) → without_id a ≡ without_id b
same_head a b rules others same = cc

same_tail : (a b : Rule) (rules others : List Rule) → AreSame (a ∷ rules) (b ∷ others) → AreSame rules others
same_tail a b rules others same = cc

same_stays_by : (rule first : Rule) (found wanted : List Rule) (b : Bool) → b ≡ true → (has_rule rule wanted ≡ true → stays rule found wanted ≡ true) → has_rule rule (first ∷ wanted) ≡ true → cond b (is_same_rule first rule || stays rule found wanted) (stays rule found (first ∷ wanted)) ≡ true
same_stays_by rule first found wanted true is rest has = by (is_same_rule first rule) has
  where
    by : (s : Bool) → (s || has_rule rule wanted) ≡ true → (s || stays rule found wanted) ≡ true
    by true h = refl
    by false h = rest h
same_stays_by rule first found wanted false is rest has = differ (sym is)

-- if both have the same rules, each stays
pub same_stays : (rule : Rule) (found wanted : List Rule) → AreSame found wanted → has_rule rule wanted ≡ true → stays rule found wanted ≡ true
same_stays rule [] [] same has = has
same_stays rule [] (first ∷ wanted) same has = absurd cc
same_stays rule (other ∷ found) [] same has = absurd cc
same_stays rule (other ∷ found) (first ∷ wanted) same has =
    same_stays_by rule first found wanted (is_same_rule other first) ((rules_same other first).1 (ap (numbered first.id) (same_head other first found wanted same))) (same_stays rule found wanted (same_tail other first found wanted same)) has
