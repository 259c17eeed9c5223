-- What holds of a version holds of the next one.
use Rattle.std.proofs.Common.{◌≡◌, ℕ, ◌+◌, ◌<◌, ◌≤◌, Bool, true, false, not, List, [], ◌∷◌, Option, Some, None, Result, Ok, Err, length, refl, sym, ap, ◌∙◌, subst, arith, cond}
use Rattle.std.specs.Prelude.{nat_lt, ◌==◌, filter, IfOk, ok_or, option_map}
use Rattle.std.specs.List.{AllByRecursion as Each, IsDistinct}
use Rattle.std.proofs.lemmas.Bool.Decides.{nat_tests}
use Rattle.prt_refusals.specs.declared.refusal.Refusal.{Refusal}
use Rattle.prt_refusals.specs.declared.refusal.Refusal.TheVariants.{Exists, NoSuch, Full, CountFull}
use Rattle.prt_addr.proofs.Each.{distinct_filtered, each_filtered, each_implies, filtered_fit, one_less}
use Rattle.prt_addr.proofs.Orders.{each_inserted, length_inserted, rising_filtered}
use Rattle.prt_route.specs.Edit.{after_edit, has_key, without_key}
use Rattle.prt_route.specs.Route.{is_listed_before, is_same_key, key_of}
use Rattle.prt_route.specs.RouteChoice.{chosen_route, is_selected}
use Rattle.prt_route.specs.declared.edit.RouteEdit.{RouteEdit}
use Rattle.prt_route.specs.declared.edit.RouteEdit.TheVariants.{Put, Remove, Flush}
use Rattle.prt_route.specs.declared.route.Route.{Route}
use Rattle.prt_route.proofs.Edits.{edit_rises}
use Rattle.prt_rule.specs.Rule.{is_before}
use Rattle.prt_rule.specs.Same.{is_same_rule}
use Rattle.prt_rule.specs.declared.rule.Rule.{Rule}
use Rattle.prt_command.specs.declared.request.Command.{Command}
use Rattle.prt_command.specs.declared.request.Command.TheVariants.{RouteAdd, RouteChange, RouteReplace, RouteDel, RouteFlush, RuleAdd, RuleDel, RuleFlush}
use Rattle.prt_version.specs.Change.{IsChecked, change_of, has_rule, unless_count_full, named_rule, put, rule_of}
use Rattle.prt_version.specs.Sound.{IsSound}
use Rattle.prt_version.specs.State.{State, opening_rules, opening_state, table_rule}
use Rattle.prt_version.specs.declared.change.Change.{Change}
use Rattle.prt_version.specs.declared.change.Change.TheVariants as change
use Rattle.prt_version.specs.declared.limits.TheConstants.{MOST_COMMANDS, MOST_ROUTES, MOST_RULES}
use Rattle.prt_version.proofs.Folds.{put_count}
use Rattle.prt_version.proofs.RuleOrder.{put_ids, put_rises, put_unlike}

-- ---- what an accepted change shows

room_for : (most n : ℕ) → nat_lt n most ≡ true → n + 1 ≤ most
room_for most n h = grind (arith, nat_tests)

-- the result is the change, and there is room for one more command
record IsCounted (count : ℕ) (r : Result Change Refusal) (made : Change) : Type 0 where
  is : r ≡ Ok made
  room : count + 1 ≤ MOST_COMMANDS

count_room_by : (count : ℕ) (asked made : Change) (b : Bool) → nat_lt count MOST_COMMANDS ≡ b → cond b (Ok asked) (Err CountFull) ≡ Ok made → IsCounted count (Ok asked) made
count_room_by count asked made true below h = record { is = h; room = room_for MOST_COMMANDS count below }
count_room_by count asked made false below h = absurd cc

count_room : (count : ℕ) (r : Result Change Refusal) (made : Change) → unless_count_full count r ≡ Ok made → IsCounted count r made
count_room count (Ok asked) made h = count_room_by count asked made (nat_lt count MOST_COMMANDS) refl h
count_room count (Err reason) made h = absurd cc

-- what was asked for is made, and there is room for one more row
record HasRoom (count most : ℕ) (asked made : Change) : Type 0 where
  is : asked ≡ made
  room : count + 1 ≤ most

room_by : (count most : ℕ) (asked made : Change) (b : Bool) → nat_lt count most ≡ b → cond b (Ok asked) (Err Full) ≡ Ok made → HasRoom count most asked made
room_by count most asked made true below h = record { is = cc; room = room_for most count below }
room_by count most asked made false below h = absurd cc

-- what is to be added is not there
record IsAddition (there : Bool) (count most : ℕ) (asked made : Change) : Type 0 where
  absent : there ≡ false
  has_room : HasRoom count most asked made

addition_of : (there : Bool) (count most : ℕ) (asked made : Change) → cond there (Err Exists) (cond (nat_lt count most) (Ok asked) (Err Full)) ≡ Ok made → IsAddition there count most asked made
addition_of true count most asked made h = absurd cc
addition_of false count most asked made h = record { absent = refl; has_room = room_by count most asked made (nat_lt count most) refl h }

-- what is to be changed is there
record IsThere (there : Bool) (asked made : Change) : Type 0 where
  present : there ≡ true
  is : asked ≡ made

change_there : (there : Bool) (asked made : Change) → cond there (Ok asked) (Err NoSuch) ≡ Ok made → IsThere there asked made
change_there true asked made h = record { present = refl; is = cc }
change_there false asked made h = absurd cc

removal_of : {X : Type 0} (change_by : X → Change) (o : Option X) (made : Change) → ok_or (option_map change_by o) NoSuch ≡ Ok made → (x : X) × (change_by x ≡ made)
removal_of change_by None made h = absurd cc
removal_of change_by (Some x) made h = (x, cc)

-- ---- the state after a change

ids_on : (count : ℕ) (rules : List Rule) → Each (λ rule. rule.id ≤ count + 3) rules → Each (λ rule. rule.id ≤ count + 1 + 3) rules
ids_on count rules ids = each_implies (λ rule. rule.id ≤ count + 3) (λ rule. rule.id ≤ count + 1 + 3) (λ rule h. omega arith) rules ids

-- the rules stay as they are
edit_sound : (state : State) (edit : RouteEdit) → IsSound state → state.count + 1 ≤ MOST_COMMANDS → length (after_edit edit state.routes) ≤ MOST_ROUTES → IsSound (put state (change.Route edit))
edit_sound state edit sound room fit = record {
  count_fits = room;
  rules_rise = sound.rules_rise;
  ids_from_one = sound.ids_from_one;
  ids = ids_on state.count state.rules sound.ids;
  distinct_ids = sound.distinct_ids;
  distinct_rules = sound.distinct_rules;
  routes_rise = edit_rises edit state.routes sound.routes_rise;
  rules_fit = sound.rules_fit;
  routes_fit = fit;
}

-- one route more
one_more : (route : Route) (routes : List Route) → length routes + 1 ≤ MOST_ROUTES → length (after_edit (Put route) routes) ≤ MOST_ROUTES
one_more route routes room =
    let left : length (without_key (key_of route) routes) ≤ length routes = filtered_fit (λ other. not (is_same_key (key_of other) (key_of route))) routes (length routes) (omega arith) in
    omega (arith, length_inserted is_listed_before route (without_key (key_of route) routes))

-- a route in the place of another
in_place : (route : Route) (routes : List Route) → has_key (key_of route) routes ≡ true → length routes ≤ MOST_ROUTES → length (after_edit (Put route) routes) ≤ MOST_ROUTES
in_place route routes there fit =
    let left : length (without_key (key_of route) routes) < length routes = one_less (λ other. is_same_key (key_of other) (key_of route)) routes there in
    omega (arith, length_inserted is_listed_before route (without_key (key_of route) routes))

replacement_fits : (route : Route) (routes : List Route) (made : Change) (there : Bool) → has_key (key_of route) routes ≡ there → cond there (Ok (change.Route (Put route))) (cond (nat_lt (length routes) MOST_ROUTES) (Ok (change.Route (Put route))) (Err Full)) ≡ Ok made → length routes ≤ MOST_ROUTES → (change.Route (Put route) ≡ made) × (length (after_edit (Put route) routes) ≤ MOST_ROUTES)
replacement_fits route routes made true there h fit = (cc, in_place route routes there fit)
replacement_fits route routes made false there h fit =
    let room : HasRoom (length routes) MOST_ROUTES (change.Route (Put route)) made = room_by (length routes) MOST_ROUTES (change.Route (Put route)) made (nat_lt (length routes) MOST_ROUTES) refl h in
    (room.is, one_more route routes room.room)

-- only the rules that pass a test are left
fewer_rules : (state : State) (p : Rule → Bool) → IsSound state → state.count + 1 ≤ MOST_COMMANDS → IsSound (record { count = state.count + 1; rules = filter p state.rules; routes = state.routes })
fewer_rules state p sound room = record {
  count_fits = room;
  rules_rise = rising_filtered is_before p state.rules sound.rules_rise;
  ids_from_one = each_filtered (λ rule. 1 ≤ rule.id) p state.rules sound.ids_from_one;
  ids = each_filtered (λ rule. rule.id ≤ state.count + 1 + 3) p state.rules (ids_on state.count state.rules sound.ids);
  distinct_ids = distinct_filtered (λ a b. a.id == b.id) p state.rules sound.distinct_ids;
  distinct_rules = distinct_filtered is_same_rule p state.rules sound.distinct_rules;
  routes_rise = sound.routes_rise;
  rules_fit = filtered_fit p state.rules MOST_RULES sound.rules_fit;
  routes_fit = sound.routes_fit;
}

one_more_rule : (state : State) (rule : Rule) → rule.id ≡ state.count + 4 → has_rule rule state.rules ≡ false → IsSound state → state.count + 1 ≤ MOST_COMMANDS → length state.rules + 1 ≤ MOST_RULES → IsSound (put state (change.RulePut rule))
one_more_rule state rule id absent sound counts room =
    let older : Each (λ other. other.id < rule.id) state.rules = each_implies (λ other. other.id ≤ state.count + 3) (λ other. other.id < rule.id) (λ other h. omega arith) state.rules sound.ids in
    record {
      count_fits = counts;
      rules_rise = put_rises rule state.rules older sound.rules_rise;
      ids_from_one = each_inserted (λ other. 1 ≤ other.id) is_before rule state.rules (omega arith) sound.ids_from_one;
      ids = each_inserted (λ other. other.id ≤ state.count + 1 + 3) is_before rule state.rules (omega arith) (ids_on state.count state.rules sound.ids);
      distinct_ids = put_ids rule state.rules older sound.distinct_ids;
      distinct_rules = put_unlike rule state.rules absent sound.distinct_rules;
      routes_rise = sound.routes_rise;
      rules_fit = omega (arith, length_inserted is_before rule state.rules);
      routes_fit = sound.routes_fit;
    }

-- the state after the change that is made is sound if the state after the one that was asked for is
as_made : (state : State) (asked made : Change) → asked ≡ made → IsSound (put state asked) → IsSound (put state made)
as_made state asked made is sound = subst (λ c. IsSound (put state c)) is sound

fit_after : {X : Type 0} (p : X → Bool) (xs : List X) (most : ℕ) → length xs ≤ most → length (filter p xs) ≤ most
fit_after p xs most fit = filtered_fit p xs most fit

change_sound : (state : State) (command : Command) (made : Change) → IsSound state → state.count + 1 ≤ MOST_COMMANDS → change_of state command ≡ Ok made → IsSound (put state made)
change_sound state (RouteAdd route) made sound room h =
    let a : IsAddition (has_key (key_of route) state.routes) (length state.routes) MOST_ROUTES (change.RouteAdd route) made = addition_of (has_key (key_of route) state.routes) (length state.routes) MOST_ROUTES (change.RouteAdd route) made h in
    as_made state (change.RouteAdd route) made a.has_room.is (edit_sound state (Put route) sound room (one_more route state.routes a.has_room.room))
change_sound state (RouteChange route) made sound room h =
    let t : IsThere (has_key (key_of route) state.routes) (change.Route (Put route)) made = change_there (has_key (key_of route) state.routes) (change.Route (Put route)) made h in
    as_made state (change.Route (Put route)) made t.is (edit_sound state (Put route) sound room (in_place route state.routes t.present sound.routes_fit))
change_sound state (RouteReplace route) made sound room h =
    let r : (change.Route (Put route) ≡ made) × (length (after_edit (Put route) state.routes) ≤ MOST_ROUTES) = replacement_fits route state.routes made (has_key (key_of route) state.routes) refl h sound.routes_fit in
    as_made state (change.Route (Put route)) made r.0 (edit_sound state (Put route) sound room r.1)
change_sound state (RouteDel choice) made sound room h =
    let r : (route : Route) × (change.Route (Remove (key_of route)) ≡ made) = removal_of (λ route. change.Route (Remove (key_of route))) (chosen_route choice state.routes) made h in
    as_made state (change.Route (Remove (key_of r.0))) made r.1 (edit_sound state (Remove (key_of r.0)) sound room (fit_after (λ route. not (is_same_key (key_of route) (key_of r.0))) state.routes MOST_ROUTES sound.routes_fit))
change_sound state (RouteFlush selector) made sound room h =
    as_made state (change.Route (Flush selector)) made (cc) (edit_sound state (Flush selector) sound room (fit_after (λ route. not (is_selected selector route)) state.routes MOST_ROUTES sound.routes_fit))
change_sound state (RuleAdd new) made sound room h =
    let a : IsAddition (has_rule (rule_of state new) state.rules) (length state.rules) MOST_RULES (change.RulePut (rule_of state new)) made = addition_of (has_rule (rule_of state new) state.rules) (length state.rules) MOST_RULES (change.RulePut (rule_of state new)) made h in
    as_made state (change.RulePut (rule_of state new)) made a.has_room.is (one_more_rule state (rule_of state new) refl a.absent sound room a.has_room.room)
change_sound state (RuleDel choice) made sound room h =
    let r : (rule : Rule) × (change.RuleDrop rule.id ≡ made) = removal_of (λ rule. change.RuleDrop rule.id) (named_rule choice state.rules) made h in
    as_made state (change.RuleDrop r.0.id) made r.1 (fewer_rules state (λ rule. not (rule.id == r.0.id)) sound room)
change_sound state RuleFlush made sound room h =
    as_made state change.RuleFlush made (cc) (fewer_rules state (λ rule. rule.priority == 0) sound room)

put_sound : (state : State) (made : Change) → IsSound state → IsChecked state made → IsSound (put state made)
put_sound state made sound checked =
    let c : IsCounted state.count (change_of state checked.command) made = count_room state.count (change_of state checked.command) made checked.makes in
    change_sound state checked.command made sound c.room c.is

-- ---- the parts of a version

opening_sound : IsSound opening_state
unfolding IsDistinct
opening_sound = record {
  count_fits = omega arith;
  rules_rise = ((refl, (refl, tt)), ((refl, tt), (tt, tt)));
  ids_from_one = (omega arith, (omega arith, (omega arith, tt)));
  ids = (omega arith, (omega arith, (omega arith, tt)));
  distinct_ids = ((refl, (refl, tt)), ((refl, tt), (tt, tt)));
  distinct_rules = ((refl, (refl, tt)), ((refl, tt), (tt, tt)));
  routes_rise = tt;
  rules_fit = omega arith;
  routes_fit = omega arith;
}

-- the parts of the version of a new database
pub opens_sound : (first second third : Rule) (rules : List Rule) (routes : List Route) → first ≡ table_rule 1 0 255 → second ≡ table_rule 2 32766 254 → third ≡ table_rule 3 32767 253 → rules ≡ first ∷ second ∷ third ∷ [] → routes ≡ [] → IsSound (record { count = 0; rules = rules; routes = routes })
opens_sound first second third rules routes local main default are none =
    let rules_are : rules ≡ opening_rules = are ∙ ap (λ r. r ∷ second ∷ third ∷ []) local ∙ ap (λ r. table_rule 1 0 255 ∷ r ∷ third ∷ []) main ∙ ap (λ r. table_rule 1 0 255 ∷ table_rule 2 32766 254 ∷ r ∷ []) default in
    let with_rules : IsSound (record { count = 0; rules = rules; routes = [] }) = subst (λ x. IsSound (record { count = 0; rules = x; routes = [] })) (sym rules_are) opening_sound in
    subst (λ x. IsSound (record { count = 0; rules = rules; routes = x })) (sym none) with_rules

with_count : (count : ℕ) (state : State) → state.count ≡ count → IsSound state → IsSound (record { count = count; rules = state.rules; routes = state.routes })
with_count count state is sound = subst (λ n. IsSound (record { count = n; rules = state.rules; routes = state.routes })) is sound

-- the parts of the next version
pub next_sound : (inside state : State) (made : Change) (rules : List Rule) (routes : List Route) → inside ≡ state → IsSound inside → IsChecked state made → rules ≡ (put state made).rules → routes ≡ (put state made).routes → IsSound (record { count = inside.count + 1; rules = rules; routes = routes })
next_sound inside state made rules routes same sound checked rules_are routes_are =
    let checked_inside : IsChecked inside made = subst (λ s. IsChecked s made) (sym same) checked in
    let put_is : put state made ≡ put inside made = ap (λ s. put s made) (sym same) in
    let whole : IsSound (record { count = inside.count + 1; rules = (put inside made).rules; routes = (put inside made).routes }) = with_count (inside.count + 1) (put inside made) (put_count inside made) (put_sound inside made sound checked_inside) in
    let with_rules : IsSound (record { count = inside.count + 1; rules = rules; routes = (put inside made).routes }) = subst (λ x. IsSound (record { count = inside.count + 1; rules = x; routes = (put inside made).routes })) (sym (rules_are ∙ ap (λ s. s.rules) put_is)) whole in
    subst (λ x. IsSound (record { count = inside.count + 1; rules = rules; routes = x })) (sym (routes_are ∙ ap (λ s. s.routes) put_is)) with_rules

-- a change that was checked leaves no more routes than there is room for
pub routes_fit : (inside state : State) (checked made : Change) → inside ≡ state → IsSound inside → IsChecked state checked → checked ≡ made → length (put state made).routes ≤ MOST_ROUTES
routes_fit inside state checked made same sound is_checked is =
    let checked_inside : IsChecked inside made = subst (IsChecked inside) is (subst (λ s. IsChecked s checked) (sym same) is_checked) in
    subst (λ s. length (put s made).routes ≤ MOST_ROUTES) same (put_sound inside made sound checked_inside).routes_fit

-- what holds of a value holds of the one that is owned
pub of_owner : {X Y F : Type 0} (P : X → Type 0) (value : Y → X) (made : X) (owned : Result Y F) → P made → IfOk owned (λ owner. value owner ≡ made) → IfOk owned (λ owner. P (value owner))
of_owner P value made (Ok owner) holds is = subst P (sym is) holds
of_owner P value made (Err reason) holds is = tt
