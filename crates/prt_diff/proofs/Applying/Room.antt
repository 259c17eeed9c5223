-- If the commands of the plan were all accepted, there was room.
use Rattle.std.proofs.Common.{◌≡◌, inl, inr, ℕ, zero, suc, ◌+◌, ◌<◌, ◌≤◌, Bool, true, false, not, List, [], ◌∷◌, ◌++◌, Option, Some, None, Result, Ok, Err, length, map, refl, sym, ap, ◌∙◌, subst, arith, cond}
use Rattle.std.specs.Prelude.{filter, ◌==◌, nat_le, nat_lt, if◌then◌else◌, option_map, ok_or}
use Rattle.std.specs.List.{AllByRecursion as Each, IsDistinct}
use Rattle.std.specs.Result.{result_err}
use Rattle.std.proofs.lemmas.Bool.{cases_lt, eqb-true}
use Rattle.std.proofs.lemmas.Bool.Decides.{nat_tests}
use Rattle.std.proofs.lemmas.List.{length-append, length-map}
use Rattle.prt_refusals.specs.declared.refusal.Refusal.{Refusal}
use Rattle.prt_refusals.specs.declared.refusal.Refusal.TheVariants.{CountFull, Exists, Full, NoSuch}
use Rattle.prt_addr.proofs.Each.{each_implies}
use Rattle.prt_addr.proofs.Orders.{length_inserted}
use Rattle.prt_route.specs.Edit.{has_key}
use Rattle.prt_route.specs.Route.{key_of}
use Rattle.prt_route.specs.declared.edit.RouteEdit.TheVariants.{Put}
use Rattle.prt_route.specs.declared.route.Route.{Route}
use Rattle.prt_rule.specs.Rule.{is_before}
use Rattle.prt_rule.specs.declared.rule.Rule.{Rule}
use Rattle.prt_command.specs.declared.request.Command.{Command}
use Rattle.prt_version.specs.Accepted.{IsAccepted}
use Rattle.prt_version.specs.Change.{apply, check, fold, has_rule, named_rule, put, put_if, rule_of, unless_count_full}
use Rattle.prt_version.specs.Sound.{IsSound}
use Rattle.prt_version.specs.State.{State}
use Rattle.prt_version.specs.declared.change.Change.{Change}
use Rattle.prt_version.specs.declared.change.Change.TheVariants as change
use Rattle.prt_version.specs.declared.limits.TheConstants.{MOST_COMMANDS, MOST_ROUTES, MOST_RULES}
use Rattle.prt_version.proofs.Folds.{count_fold, fold_append}
use Rattle.prt_version.proofs.RowOrder.{ids_both_ways}
use Rattle.prt_diff.specs.Routes.{delete_route, put_all, replace_route}
use Rattle.prt_diff.specs.Rules.{add_rule, new_rule, rules_at, without_id}
use Rattle.prt_diff.specs.Apply.Brings.{AreAlike, CanBring}
use Rattle.prt_diff.specs.Apply.Plan.{plan}
use Rattle.prt_diff.specs.Apply.Routes.{missing_routes, unwanted_routes}
use Rattle.prt_diff.specs.Apply.Rules.{above_all, are_same, changes_below, choice_at, delete_first, replacing, rule_changes}
use Rattle.prt_diff.specs.Apply.Walk.{rules_below, rules_from}
use Rattle.prt_diff.proofs.Members.{all_pass, each_split}
use Rattle.prt_diff.proofs.RuleClasses.{RisesByPriority, rises_by_priority}
use Rattle.prt_diff.proofs.Applying.Accepted.{Leave, fold_sound, leave_all, leave_first}
use Rattle.prt_diff.proofs.Applying.Brings.{plan_leaves}
use Rattle.prt_diff.proofs.Applying.Runs.{above, all_below, below_next, none_below_none, none_from}
use Rattle.prt_diff.proofs.Applying.Stages.{alike_if}

-- ---- commands that were accepted

accepted_parts : (state : State) (first second : List Command) → IsAccepted state (first ++ second) → IsAccepted state first × IsAccepted (fold state first) second
accepted_parts state [] second accepted = (tt, accepted)
accepted_parts state (command ∷ first) second accepted =
    let rest = accepted_parts (apply state command) first second accepted.1 in
    ((accepted.0, rest.0), rest.1)

abbrev if_open : Bool → Change → Result Change Refusal
if_open b made = if b then Ok made else Err CountFull

opened : (b : Bool) (made : Change) → result_err (if_open b made) ≡ None → if_open b made ≡ Ok made
opened true made none = refl
opened false made none = absurd cc

-- the result for a route that replaces one or finds room
abbrev if_there : Bool → Bool → Change → Result Change Refusal
if_there there room made = if there then Ok made else (if room then Ok made else Err Full)

put_made : (count : ℕ) (there room : Bool) (made : Change) → result_err (unless_count_full count (if_there there room made)) ≡ None → unless_count_full count (if_there there room made) ≡ Ok made
put_made count true room made none = opened (nat_lt count MOST_COMMANDS) made none
put_made count false true made none = opened (nat_lt count MOST_COMMANDS) made none
put_made count false false made none = absurd cc

-- the result for a rule that is new and finds room
abbrev if_new : Bool → Bool → Change → Result Change Refusal
if_new there room made = if there then Err Exists else (if room then Ok made else Err Full)

add_made : (count : ℕ) (there room : Bool) (made : Change) → result_err (unless_count_full count (if_new there room made)) ≡ None → unless_count_full count (if_new there room made) ≡ Ok made
add_made count true room made none = absurd cc
add_made count false true made none = opened (nat_lt count MOST_COMMANDS) made none
add_made count false false made none = absurd cc

-- ---- routes are put

accepted_puts : (todo : List Route) (state : State) → IsAccepted state (map replace_route todo) → Leave state (map replace_route todo) state.rules (put_all todo state.routes)
accepted_puts [] state accepted = leave_all state
accepted_puts (route ∷ todo) state accepted =
    let made : Change = change.Route (Put route) in
    let is : check state (replace_route route) ≡ Ok made = put_made state.count (has_key (key_of route) state.routes) (nat_lt (length state.routes) MOST_ROUTES) made accepted.0 in
    leave_first state (replace_route route) made (map replace_route todo) state.rules (put_all todo (put state made).routes) is
    (accepted_puts todo (put state made) (subst (λ s. IsAccepted s (map replace_route todo)) (ap (put_if state) is) accepted.1))

-- ---- an accepted addition is one rule more

one_added : (state : State) (rule : Rule) → result_err (check state (add_rule rule)) ≡ None → length (apply state (add_rule rule)).rules ≡ length state.rules + 1
one_added state rule accepted =
    let new : Rule = rule_of state (new_rule rule) in
    let made : Change = change.RulePut new in
    let is : check state (add_rule rule) ≡ Ok made = add_made state.count (has_rule new state.rules) (nat_lt (length state.rules) MOST_RULES) made accepted in
    ap (λ checked. length (put_if state checked).rules) is ∙ length_inserted is_before new state.rules

all_added : (todo : List Rule) (state : State) → IsAccepted state (map add_rule todo) → length (fold state (map add_rule todo)).rules ≡ length state.rules + length todo
all_added [] state accepted = omega arith
all_added (rule ∷ todo) state accepted =
    let one = one_added state rule accepted.0 in
    let rest = all_added todo (apply state (add_rule rule)) accepted.1 in
    omega (arith, one, rest)

-- ---- a deletion is at most one rule less

abbrev without_rule : ℕ → List Rule → List Rule
without_rule id rules = filter (λ (rule : Rule). not (rule.id == id)) rules

kept : (id : ℕ) (rule other : Rule) → (rule.id == id) ≡ true → (rule.id == other.id) ≡ false → not (other.id == id) ≡ true
kept id rule other is differs = ap not (subst (λ i. (other.id == i) ≡ false) (eqb-true rule.id id is) (ids_both_ways other rule ∙ differs))

one_less_by : (id : ℕ) (rule : Rule) (rules : List Rule) (b : Bool) → (rule.id == id) ≡ b → Each (λ (other : Rule). (rule.id == other.id) ≡ false) rules → length rules ≤ length (without_rule id rules) + 1 → length (rule ∷ rules) ≤ length (cond (not b) (rule ∷ without_rule id rules) (without_rule id rules)) + 1
one_less_by id rule rules true is apart rest =
    let all : without_rule id rules ≡ rules = all_pass (λ (other : Rule). not (other.id == id)) rules (each_implies (λ (other : Rule). (rule.id == other.id) ≡ false) (λ (other : Rule). not (other.id == id) ≡ true) (λ other differs. kept id rule other is differs) rules apart) in
    let l : length (without_rule id rules) ≡ length rules = ap length all in
    omega (arith, l)
one_less_by id rule rules false is apart rest = omega (arith, rest)

one_less : (id : ℕ) (rules : List Rule) → IsDistinct (λ (rule : Rule) (other : Rule). rule.id == other.id) rules → length rules ≤ length (without_rule id rules) + 1
unfolding IsDistinct
one_less id [] apart = omega arith
one_less id (rule ∷ rules) apart = one_less_by id rule rules (rule.id == id) refl apart.0 (one_less id rules apart.1)

dropped_if : (state : State) (id : ℕ) (b : Bool) → IsSound state → length state.rules ≤ length (put_if state (if_open b (change.RuleDrop id))).rules + 1
dropped_if state id true sound = one_less id state.rules sound.distinct_ids
dropped_if state id false sound = omega arith

dropped_by : (state : State) (found : Option Rule) → IsSound state → length state.rules ≤ length (put_if state (unless_count_full state.count (ok_or (option_map (λ (rule : Rule). change.RuleDrop rule.id) found) NoSuch))).rules + 1
dropped_by state None sound = omega arith
dropped_by state (Some rule) sound = dropped_if state rule.id (nat_lt state.count MOST_COMMANDS) sound

one_dropped : (state : State) (rule : Rule) → IsSound state → length state.rules ≤ length (apply state (delete_first rule)).rules + 1
one_dropped state rule sound = dropped_by state (named_rule (choice_at rule.priority) state.rules) sound

all_dropped : (todo : List Rule) (state : State) → IsSound state → length state.rules ≤ length (fold state (map delete_first todo)).rules + length todo
all_dropped [] state sound = omega arith
all_dropped (rule ∷ todo) state sound =
    let one = one_dropped state rule sound in
    let rest = all_dropped todo (apply state (delete_first rule)) (fold_sound state (delete_first rule ∷ []) sound) in
    omega (arith, one, rest)

-- ---- the rules of one priority are replaced

replaced_by : (state : State) (here there : List Rule) (b : Bool) → are_same here there ≡ b → IsSound state → IsAccepted state (if b then [] else map delete_first here ++ map add_rule there) → length state.rules + length there ≤ length (fold state (if b then [] else map delete_first here ++ map add_rule there)).rules + length here
replaced_by state here there true same sound accepted =
    let l : length here ≡ length there = sym (length-map here without_id) ∙ ap length (alike_if here there same) ∙ length-map there without_id in
    omega (arith, l)
replaced_by state here there false same sound accepted =
    let deletions : List Command = map delete_first here in
    let additions : List Command = map add_rule there in
    let parts = accepted_parts state deletions additions accepted in
    let dropped = all_dropped here state sound in
    let added = all_added there (fold state deletions) parts.1 in
    let whole : length (fold state (deletions ++ additions)).rules ≡ length (fold (fold state deletions) additions).rules = ap (λ (s : State). length s.rules) (fold_append state deletions additions) in
    omega (arith, dropped, added, whole)

-- ---- priority by priority

-- There are as many more rules as wanted ones below the priority, and at most as many fewer as found ones.
rules_grow : (n : ℕ) (state : State) (found wanted : List Rule) → IsSound state → RisesByPriority found → RisesByPriority wanted → IsAccepted state (changes_below n found wanted) → length state.rules + length (rules_below n wanted) ≤ length (fold state (changes_below n found wanted)).rules + length (rules_below n found)
rules_grow zero state found wanted sound found_rises wanted_rises accepted =
    let none : length (rules_below 0 wanted) ≡ 0 = ap length (none_below_none wanted) in
    omega (arith, none)
rules_grow (suc n) state found wanted sound found_rises wanted_rises accepted =
    let before : List Command = changes_below n found wanted in
    let here : List Rule = rules_at n found in
    let there : List Rule = rules_at n wanted in
    let parts = accepted_parts state before (replacing here there) accepted in
    let old = rules_grow n state found wanted sound found_rises wanted_rises parts.0 in
    let one = replaced_by (fold state before) here there (are_same here there) refl (fold_sound state before sound) parts.1 in
    let whole : length (fold state (before ++ replacing here there)).rules ≡ length (fold (fold state before) (replacing here there)).rules = ap (λ (s : State). length s.rules) (fold_append state before (replacing here there)) in
    let wanted_size : length (rules_below (suc n) wanted) ≡ length (rules_below n wanted) + length there = ap length (below_next n wanted wanted_rises) ∙ length-append (rules_below n wanted) there in
    let found_size : length (rules_below (suc n) found) ≡ length (rules_below n found) + length here = ap length (below_next n found found_rises) ∙ length-append (rules_below n found) here in
    omega (arith, old, one, whole, wanted_size, found_size)

accepted_below : (m n : ℕ) (state : State) (found wanted : List Rule) → n ≤ m → IsAccepted state (changes_below m found wanted) → IsAccepted state (changes_below n found wanted)
accepted_below zero n state found wanted low accepted = let none : zero ≡ n = omega arith in subst (λ k. IsAccepted state (changes_below k found wanted)) none accepted
accepted_below (suc m) n state found wanted low accepted =
    elim (cases_lt m n) [
      | inl at ↦ (let is : suc m ≡ n = omega (arith, at, low) in subst (λ k. IsAccepted state (changes_below k found wanted)) is accepted)
      | inr lower ↦ accepted_below m n state found wanted lower (accepted_parts state (changes_below m found wanted) (replacing (rules_at m found) (rules_at m wanted)) accepted).0
    ]

-- ---- all rules are below a priority or not

sizes_by : (rule : Rule) (below from rules : List Rule) (a b : Bool) → b ≡ not a → length below + length from ≡ length rules → length (cond a (rule ∷ below) below) + length (cond b (rule ∷ from) from) ≡ length (rule ∷ rules)
sizes_by rule below from rules true true is sizes = absurd cc
sizes_by rule below from rules true false is sizes = omega (arith, sizes)
sizes_by rule below from rules false true is sizes = omega (arith, sizes)
sizes_by rule below from rules false false is sizes = absurd cc

not_below : (n : ℕ) (rule : Rule) → nat_le n rule.priority ≡ not (nat_lt rule.priority n)
not_below n rule = grind (arith, nat_tests)

both_sizes : (n : ℕ) (rules : List Rule) → length (rules_below n rules) + length (rules_from n rules) ≡ length rules
both_sizes n [] = omega arith
both_sizes n (rule ∷ rules) = sizes_by rule (rules_below n rules) (rules_from n rules) rules (nat_lt rule.priority n) (nat_le n rule.priority) (not_below n rule) (both_sizes n rules)

-- ---- the plan

module _ (found wanted : State) (found_sound : IsSound found) (wanted_sound : IsSound wanted) (accepted : IsAccepted found (plan found wanted)) where
  abbrev missing : List Route
  missing = missing_routes found.routes wanted.routes

  abbrev puts : List Command
  puts = map replace_route missing

  abbrev changes : List Command
  changes = rule_changes found.rules wanted.rules

  abbrev deletions : List Command
  deletions = map delete_route (unwanted_routes found.routes wanted.routes)

  -- when routes have come
  abbrev start : State
  start = fold found puts

  abbrev top : ℕ
  top = above_all (found.rules ++ wanted.rules)

  parts : IsAccepted found puts × IsAccepted start (changes ++ deletions)
  parts = accepted_parts found puts (changes ++ deletions) accepted

  changes_accepted : IsAccepted start changes
  changes_accepted = (accepted_parts start changes deletions parts.1).0

  come : Leave found puts found.rules (put_all missing found.routes)
  come = accepted_puts missing found parts.0

  start_sound : IsSound start
  start_sound = fold_sound found puts found_sound

  routes_fit : length (put_all missing found.routes) ≤ MOST_ROUTES
  routes_fit = subst (λ routes. length routes ≤ MOST_ROUTES) come.routes_are start_sound.routes_fit

  commands_fit : found.count + length (plan found wanted) ≤ MOST_COMMANDS
  commands_fit =
      let last = fold_sound found (plan found wanted) found_sound in
      omega (arith, count_fold found (plan found wanted) accepted, last.count_fits)

  fit_below : (n : ℕ) → n ≤ top → length (rules_below n wanted.rules) + length (rules_from n found.rules) ≤ MOST_RULES
  fit_below n low =
      let commands : List Command = changes_below n found.rules wanted.rules in
      let grown = rules_grow n start found.rules wanted.rules start_sound (rises_by_priority found.rules found_sound.rules_rise) (rises_by_priority wanted.rules wanted_sound.rules_rise) (accepted_below top n start found.rules wanted.rules low changes_accepted) in
      let fit : length (fold start commands).rules ≤ MOST_RULES = (fold_sound start commands start_sound).rules_fit in
      let size : length start.rules ≡ length found.rules = ap length come.rules_are in
      omega (arith, grown, fit, size, both_sizes n found.rules)

  fit_above : (n : ℕ) → top ≤ n → length (rules_below n wanted.rules) + length (rules_from n found.rules) ≤ MOST_RULES
  fit_above n high =
      let lower = each_split (λ (rule : Rule). rule.priority < n) found.rules wanted.rules (above (found.rules ++ wanted.rules) n high) in
      let none : length (rules_from n found.rules) ≡ 0 = ap length (none_from n found.rules lower.0) in
      let all : length (rules_below n wanted.rules) ≡ length wanted.rules = ap length (all_below n wanted.rules lower.1) in
      omega (arith, none, all, wanted_sound.rules_fit)

  rules_fit : (n : ℕ) → length (rules_below n wanted.rules) + length (rules_from n found.rules) ≤ MOST_RULES
  rules_fit n = elim (cases_lt n top) [ inl lower ↦ fit_below n (omega (arith, lower)) | inr higher ↦ fit_above n higher ]

  can_bring : CanBring found wanted
  can_bring = record {
    found_sound = found_sound;
    wanted_sound = wanted_sound;
    room = record { routes = routes_fit; rules = rules_fit; commands = commands_fit };
  }

  pub accepted_leaves : AreAlike (fold found (plan found wanted)) wanted
  accepted_leaves = plan_leaves found wanted can_bring
