-- The plan is accepted, and brings what is wanted.
use Rattle.std.proofs.Common.{inl, inr, ◌≡◌, ◌+◌, ◌≤◌, List, ◌++◌, length, map, sym, ap, ◌∙◌, subst, arith, not}
use Rattle.std.specs.List.{AllByRecursion as Each}
use Rattle.std.proofs.lemmas.List.{length-append, length-map}
use Rattle.prt_route.specs.Edit.{has_key, without_key}
use Rattle.prt_route.specs.Route.{key_of}
use Rattle.prt_route.specs.declared.route.Route.{Route}
use Rattle.prt_command.specs.declared.request.Command.{Command}
use Rattle.prt_version.specs.Accepted.{IsAccepted}
use Rattle.prt_version.specs.Change.{fold}
use Rattle.prt_version.specs.State.{State}
use Rattle.prt_version.specs.declared.limits.TheConstants.{MOST_RULES}
use Rattle.prt_version.proofs.Folds.{count_fold}
use Rattle.prt_diff.specs.Between.{EachState}
use Rattle.prt_diff.specs.Routes.{delete_route, put_all, replace_route}
use Rattle.prt_diff.specs.Rules.{without_id}
use Rattle.prt_diff.specs.Apply.Brings.{AreAlike, CanBring, IsBetween}
use Rattle.prt_diff.specs.Apply.Plan.{plan}
use Rattle.prt_diff.specs.Apply.Routes.{has_route, missing_routes, unwanted_routes}
use Rattle.prt_diff.specs.Apply.Rules.{above_all, rule_changes}
use Rattle.prt_diff.specs.Apply.Walk.{rules_below, rules_from}
use Rattle.prt_diff.proofs.Leads.{each_state}
use Rattle.prt_diff.proofs.Members.{IsIn, contains_in, each_if, in_contains, negated, passed}
use Rattle.prt_diff.proofs.RouteSteps.{put_one}
use Rattle.prt_diff.proofs.RuleClasses.{rises_by_priority}
use Rattle.prt_diff.proofs.Applying.Accepted.{Leave, fold_sound, leave_both}
use Rattle.prt_diff.proofs.Applying.Between.{OfRoutes, RoutesBetween, changes_keep, deletions_keep, each_kept, each_last, each_more, put_between, replacements_keep, without_between}
use Rattle.prt_diff.proofs.Applying.RouteEnds.{routes_brought, unwanted_apart, unwanted_there}
use Rattle.prt_diff.proofs.Applying.RouteSteps.{delete_all, deletes, puts}
use Rattle.prt_diff.proofs.Applying.Stages.{Replaced, rules_replaced}

module _ (found wanted : State) (can : CanBring found wanted) where
  abbrev missing : List Route
  missing = missing_routes found.routes wanted.routes

  abbrev unwanted : List Route
  unwanted = unwanted_routes found.routes wanted.routes

  abbrev changes : List Command
  changes = rule_changes found.rules wanted.rules

  -- when routes have come
  abbrev start : State
  start = fold found (map replace_route missing)

  -- when rules are replaced
  abbrev middle : State
  middle = fold start changes

  sizes : length (plan found wanted) ≡ length missing + (length changes + length unwanted)
  sizes =
      let l = length-append (map replace_route missing) (changes ++ map delete_route unwanted) in
      let k = length-append changes (map delete_route unwanted) in
      let m = length-map missing replace_route in
      let u = length-map unwanted delete_route in
      omega (arith, l, k, m, u)

  come : Leave found (map replace_route missing) found.rules (put_all missing found.routes)
  come = puts missing found can.found_sound can.room.routes (omega (arith, can.room.commands, sizes))

  same_changes : rule_changes start.rules wanted.rules ≡ changes
  same_changes = ap (λ rules. rule_changes rules wanted.rules) come.rules_are

  replaced : Replaced start wanted.rules
  replaced =
      let count = count_fold found (map replace_route missing) come.accepted in
      let m = length-map missing replace_route in
      let l = ap length same_changes in
      rules_replaced start wanted.rules (fold_sound found (map replace_route missing) can.found_sound)
      (rises_by_priority wanted.rules can.wanted_sound.rules_rise) can.wanted_sound.distinct_rules
      (λ n. subst (λ rules. length (rules_below n wanted.rules) + length (rules_from n rules) ≤ MOST_RULES) (sym come.rules_are) (can.room.rules n))
      (omega (arith, can.room.commands, sizes, count, m, l))

  replace : Leave start changes replaced.rules start.routes
  replace = subst (λ commands. Leave start commands replaced.rules start.routes) same_changes replaced.leave

  middle_routes : middle.routes ≡ put_all missing found.routes
  middle_routes = replace.routes_are ∙ come.routes_are

  go : Leave middle (map delete_route unwanted) middle.rules (delete_all unwanted middle.routes)
  go =
      let first = count_fold found (map replace_route missing) come.accepted in
      let second = count_fold start changes replace.accepted in
      let m = length-map missing replace_route in
      deletes unwanted middle (fold_sound start changes (fold_sound found (map replace_route missing) can.found_sound))
      (subst (λ routes. Each (λ route. IsIn route routes) unwanted) (sym middle_routes) (unwanted_there found.routes wanted.routes can.found_sound.routes_rise can.wanted_sound.routes_rise))
      (unwanted_apart found.routes wanted.routes can.found_sound.routes_rise can.wanted_sound.routes_rise)
      (omega (arith, can.room.commands, sizes, first, second, m))

  all : Leave found (plan found wanted) middle.rules (delete_all unwanted middle.routes)
  all =
      leave_both found (map replace_route missing) (changes ++ map delete_route unwanted) middle.rules (delete_all unwanted middle.routes) come.accepted
      (leave_both start changes (map delete_route unwanted) middle.rules (delete_all unwanted middle.routes) replace.accepted go)

  pub plan_accepted : IsAccepted found (plan found wanted)
  plan_accepted = all.accepted

  pub plan_leaves : AreAlike (fold found (plan found wanted)) wanted
  plan_leaves = record {
    routes = all.routes_are ∙ ap (delete_all unwanted) middle_routes ∙ routes_brought found.routes wanted.routes can.found_sound.routes_rise can.wanted_sound.routes_rise;
    rules = ap (map without_id) (all.rules_are ∙ replace.rules_are) ∙ replaced.alike;
  }

  -- ---- on the way

  abbrev R : List Route → Type 0
  R routes = RoutesBetween found.routes wanted.routes routes

  coming : Each (λ route. (routes : List Route) → R routes → R (put_one route routes)) missing
  coming = each_if (λ route. (routes : List Route) → R routes → R (put_one route routes)) missing (λ route within. put_between found.routes wanted.routes route (passed (λ r. not (has_route r found.routes)) route wanted.routes within).0)

  going : Each (λ route. (routes : List Route) → R routes → R (without_key (key_of route) routes)) unwanted
  going =
      each_if (λ route. (routes : List Route) → R routes → R (without_key (key_of route) routes)) unwanted
      (λ route within. without_between found.routes wanted.routes route (negated (has_key (key_of route) wanted.routes) (passed (λ r. not (has_key (key_of r) wanted.routes)) route found.routes within).1))

  first_each : EachState (OfRoutes R) found (map replace_route missing)
  first_each = each_kept (OfRoutes R) (map replace_route missing) (replacements_keep R missing coming) found (record { of_both = λ key first last. first; of_one = λ route within. inl within })

  second_each : EachState (OfRoutes R) start changes
  second_each = each_kept (OfRoutes R) changes (changes_keep R (above_all (found.rules ++ wanted.rules)) found.rules wanted.rules) start (each_last (OfRoutes R) found (map replace_route missing) first_each)

  third_each : EachState (OfRoutes R) middle (map delete_route unwanted)
  third_each =
      let first = count_fold found (map replace_route missing) come.accepted in
      let second = count_fold start changes replace.accepted in
      let m = length-map missing replace_route in
      deletions_keep R unwanted middle (fold_sound start changes (fold_sound found (map replace_route missing) can.found_sound))
      (subst (λ routes. Each (λ route. IsIn route routes) unwanted) (sym middle_routes) (unwanted_there found.routes wanted.routes can.found_sound.routes_rise can.wanted_sound.routes_rise))
      (unwanted_apart found.routes wanted.routes can.found_sound.routes_rise can.wanted_sound.routes_rise)
      (omega (arith, can.room.commands, sizes, first, second, m))
      going (each_last (OfRoutes R) start changes second_each)

  is_between : (state : State) → R state.routes → IsBetween found wanted state
  is_between state between = record {
    keys_of_both = between.of_both;
    routes_of_one = λ route within. elim (between.of_one route (contains_in route state.routes within)) [
      | inl first ↦ inl (in_contains route found.routes first)
      | inr last ↦ inr (in_contains route wanted.routes last)
    ];
  }

  pub plan_between : EachState (IsBetween found wanted) found (plan found wanted)
  plan_between =
      each_state (OfRoutes R) (IsBetween found wanted) is_between found (plan found wanted)
      (each_more (OfRoutes R) found (map replace_route missing) (changes ++ map delete_route unwanted) first_each
      (each_more (OfRoutes R) start changes (map delete_route unwanted) second_each third_each))
