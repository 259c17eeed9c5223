-- If no rule is left, the changes bring all that is wanted, and nothing differs any more.
use Rattle.std.proofs.Common.{◌≡◌, inl, inr, ℕ, Bool, true, false, not, ◌&&◌, List, [], ◌++◌, zero, suc, map, refl, sym, ap, ◌∙◌, subst}
use Rattle.std.specs.Prelude.{filter, ◌==◌}
use Rattle.std.specs.List.{AllByRecursion as Each, IsDistinct, list_any}
use Rattle.std.proofs.lemmas.Bool.{and_parts, eq-eqb, eqb-true}
use Rattle.std.proofs.lemmas.List.Elements.{filter-append}
use Rattle.prt_addr.proofs.Each.{any_none, distinct_filtered, each_implies}
use Rattle.prt_route.specs.Edit.{has_key}
use Rattle.prt_route.specs.Route.{key_of}
use Rattle.prt_route.specs.declared.route.Route.{Route}
use Rattle.prt_rule.specs.Same.{is_same_rule}
use Rattle.prt_rule.specs.declared.rule.Rule.{Rule}
use Rattle.prt_rule.proofs.SameRules.{rules_same, same_both_ways}
use Rattle.prt_command.specs.declared.request.Command.{Command}
use Rattle.prt_trie.specs.Table.{has_same_key}
use Rattle.prt_version.specs.Change.{has_rule}
use Rattle.prt_version.specs.State.{State}
use Rattle.prt_diff.specs.Between.{AreSame, CanBring, IsBrought, end_of}
use Rattle.prt_diff.specs.Fence.{is_rule_within, rules_within}
use Rattle.prt_diff.specs.Plan.{Plan, bring_all, changes, clear_all, delete_routes, nothing_yet, plan, remove_all, replace_routes}
use Rattle.prt_diff.specs.Routes.{agrees, early_routes, has_agreeing, highest_first, in_turn, kept_routes, late_routes, managed_routes, missing_routes, unwanted_routes, wanted_routes}
use Rattle.prt_diff.specs.Rules.{barring_rules, bars_one, coming_rules, going_rules, is_kept_rule, new_rules, rules_at, stays, without_id}
use Rattle.prt_diff.specs.declared.fence.Fence.{Fence}
use Rattle.prt_diff.proofs.Along.{barring, barring_apart, clear_plan, coming_is, first_plan, fourth_plan, going_apart, is_coming, is_kept_one, last_routes, reached, second_plan, third_plan, wanted_ones}
use Rattle.prt_diff.proofs.End.{agreeing_key, beyond_same, clear_filtered, comes_within, end_routes_are_sought, has_filtered, kept_same, routes_are_there, same_filtered, sought_or_left, there}
use Rattle.prt_diff.proofs.HasRule.{has_like, same_has, same_itself, same_within}
use Rattle.prt_diff.proofs.Members.{IsIn, all_pass, any_in, differ, each_if, each_in, false_by, filtered_twice, in_any, none_left, none_pass, passed, passing}
use Rattle.prt_diff.proofs.Order.{bring_places, clear_rises, drop_all, drops_all, filter_same, filters_commute, minus, place_all, place_at, remove_drops, rises_filtered, rises_placed, same_stays, stays_run, stays_wanted}
use Rattle.prt_diff.proofs.PlanSteps.{bring_keeps, remove_left}
use Rattle.prt_diff.proofs.RuleClasses.{RisesByPriority, rises_by_priority, same_by_priority}

no_routes : (n : ℕ) → highest_first n [] ≡ []
no_routes zero = refl
no_routes (suc n) = no_routes n

pub no_turn : in_turn [] ≡ []
unfolding in_turn
no_turn = no_routes 66

-- the rule stays like any other that is the same
kept_like : (found wanted : List Rule) (a b : Rule) → is_same_rule a b ≡ true → is_kept_rule found wanted a ≡ is_kept_rule found wanted b
kept_like found wanted a b same = ap (λ r. is_kept_rule found wanted r) ((rules_same a b).0 same)

no_id_within : (fence : Fence) (rule : Rule) → is_rule_within fence rule ≡ is_rule_within fence (without_id rule)
no_id_within fence rule = refl

no_id_beyond : (fence : Fence) (rule : Rule) → not (is_rule_within fence rule) ≡ not (is_rule_within fence (without_id rule))
no_id_beyond fence rule = refl

no_id_at : (priority : ℕ) (rule : Rule) → (rule.priority == priority) ≡ ((without_id rule).priority == priority)
no_id_at priority rule = refl

both_pass : (a b : Bool) → a ≡ true → b ≡ false → (a && not b) ≡ true
both_pass a b one two = cc

module _ (fence : Fence) (found wanted : State) (can : CanBring fence found wanted) (none : (plan fence found wanted).left ≡ []) where
  abbrev comes : List Rule
  comes = coming_rules fence found.rules wanted.rules

  abbrev start : Plan
  start = clear_plan fence found wanted can

  abbrev middle : Plan
  middle = second_plan fence found wanted can

  abbrev goes : List Rule
  goes = going_rules fence middle.rules wanted.rules

  abbrev third : Plan
  third = third_plan fence found wanted can

  abbrev last : Plan
  last = fourth_plan fence found wanted can

  not_left : (x : Rule) → has_rule x last.left ≡ false
  not_left x = ap (has_rule x) none

  not_left_before : (x : Rule) → has_rule x middle.left ≡ false
  not_left_before x = false_by (has_rule x middle.left) (λ told. differ (sym (remove_left x goes third told) ∙ not_left x))

  last_are : last.rules ≡ minus goes (place_all comes start.rules)
  last_are = remove_drops goes third not_left ∙ ap (drop_all goes) (bring_places comes start not_left_before) ∙ drops_all goes (place_all comes start.rules)

  start_rise : RisesByPriority start.rules
  start_rise = clear_rises (barring fence found wanted can) (first_plan fence found wanted can) (rises_by_priority found.rules can.found_sound.rules_rise)

  last_rise : RisesByPriority last.rules
  last_rise = subst RisesByPriority (sym last_are) (rises_filtered (λ x. not (has_rule x goes)) (place_all comes start.rules) (rises_placed comes start.rules start_rise))

  comes_apart : IsDistinct is_same_rule comes
  unfolding new_rules
  comes_apart = distinct_filtered is_same_rule (λ rule. not (is_kept_one fence found wanted can rule)) (rules_within fence wanted.rules) (distinct_filtered is_same_rule (is_rule_within fence) wanted.rules can.wanted_sound.distinct_rules)

  module _ (priority : ℕ) where
    abbrev here : List Rule
    here = rules_at priority (rules_within fence found.rules)

    abbrev there_too : List Rule
    there_too = rules_at priority (rules_within fence wanted.rules)

    -- those that are there when rules come
    abbrev start_here : List Rule
    start_here = rules_at priority (rules_within fence start.rules)

    at_priority : rules_at priority last.rules ≡ minus goes (minus comes (rules_at priority start.rules)) ++ minus goes (rules_at priority comes)
    at_priority =
        ap (rules_at priority) last_are
        ∙ filters_commute (λ (r : Rule). r.priority == priority) (λ x. not (has_rule x goes)) (place_all comes start.rules)
        ∙ ap (minus goes) (place_at priority comes start.rules start_rise comes_apart)
        ∙ filter-append (λ x. not (has_rule x goes)) (minus comes (rules_at priority start.rules)) (rules_at priority comes)

    start_within : rules_within fence (minus goes (minus comes (rules_at priority start.rules))) ≡ minus goes (minus comes start_here)
    start_within =
        filters_commute (is_rule_within fence) (λ x. not (has_rule x goes)) (minus comes (rules_at priority start.rules))
        ∙ ap (minus goes) (filters_commute (is_rule_within fence) (λ x. not (has_rule x comes)) (rules_at priority start.rules))
        ∙ ap (λ xs. minus goes (minus comes xs)) (filters_commute (is_rule_within fence) (λ (r : Rule). r.priority == priority) start.rules)

    wanted_within : rules_within fence (minus goes (rules_at priority comes)) ≡ minus goes (rules_at priority comes)
    wanted_within =
        filters_commute (is_rule_within fence) (λ x. not (has_rule x goes)) (rules_at priority comes)
        ∙ ap (minus goes) (filters_commute (is_rule_within fence) (λ (r : Rule). r.priority == priority) comes)
        ∙ ap (λ xs. minus goes (rules_at priority xs)) (all_pass (is_rule_within fence) comes (comes_within fence found wanted can))

    within_at : rules_at priority (rules_within fence last.rules) ≡ minus goes (minus comes start_here) ++ minus goes (rules_at priority comes)
    within_at =
        filters_commute (λ (r : Rule). r.priority == priority) (is_rule_within fence) last.rules
        ∙ ap (rules_within fence) at_priority
        ∙ filter-append (is_rule_within fence) (minus goes (minus comes (rules_at priority start.rules))) (minus goes (rules_at priority comes))
        ∙ ap (λ xs. xs ++ rules_within fence (minus goes (rules_at priority comes))) start_within
        ∙ ap (λ xs. minus goes (minus comes start_here) ++ xs) wanted_within

    kept_here : (x : Rule) → (x.priority == priority) ≡ true → is_kept_one fence found wanted can x ≡ stays x here there_too
    kept_here x at = ap (λ n. stays x (rules_at n (rules_within fence found.rules)) (rules_at n (rules_within fence wanted.rules))) (eqb-true x.priority priority at)

    does_not_come : (x : Rule) → (x.priority == priority) ≡ true → stays x here there_too ≡ true → has_rule x comes ≡ false
    does_not_come x at is =
        false_by (has_rule x comes)
        (λ has.
        let w = in_any (λ other. is_same_rule other x) comes has in
        differ (sym is ∙ sym (kept_here x at) ∙ sym (kept_like (rules_within fence found.rules) (rules_within fence wanted.rules) w.one x w.passes) ∙ (coming_is fence found wanted can w.one w.within).new))

    does_not_go : (x : Rule) → has_rule x wanted.rules ≡ true → has_rule x goes ≡ false
    does_not_go x has = any_none (λ other. is_same_rule other x) goes (going_apart fence found wanted can x has)

    comes_again : (x : Rule) → is_rule_within fence x ≡ true → (x.priority == priority) ≡ true → stays x here there_too ≡ false → has_rule x wanted.rules ≡ true → has_rule x comes ≡ true
    comes_again x within at is_not has =
        let w = in_any (λ other. is_same_rule other x) wanted.rules has in
        let inside : is_rule_within fence w.one ≡ true = same_within fence w.one x w.passes ∙ within in
        let new : is_kept_one fence found wanted can w.one ≡ false = kept_like (rules_within fence found.rules) (rules_within fence wanted.rules) w.one x w.passes ∙ kept_here x at ∙ is_not in
        any_in (λ other. is_same_rule other x) w.one comes (is_coming fence found wanted can w.one w.within inside new) w.passes

    goes_away : (x : Rule) → IsIn x start.rules → is_rule_within fence x ≡ true → has_rule x wanted.rules ≡ false → has_rule x goes ≡ true
    goes_away x x_in within absent =
        let m = in_any (λ other. is_same_rule other x) middle.rules (bring_keeps x comes start (any_in (λ other. is_same_rule other x) x start.rules x_in (same_itself x))) in
        any_in (λ other. is_same_rule other x) m.one goes
        (passing (λ r. is_rule_within fence r && not (has_rule r wanted.rules)) m.one middle.rules m.within (both_pass _ _ (same_within fence m.one x m.passes ∙ within) (has_like m.one x wanted.rules m.passes ∙ absent)))
        m.passes

    -- the rule is wanted, and doesn't come
    abbrev stands : Rule → Bool
    stands x = has_rule x wanted.rules && not (has_rule x comes)

    left_by : (c g w : Bool) → (w ≡ true → g ≡ false) → (w ≡ false → g ≡ true) → (not c && not g) ≡ (w && not c)
    left_by true g true one two = refl
    left_by true g false one two = refl
    left_by false g true one two = ap not (one refl)
    left_by false g false one two = ap not (two refl)

    stands_by : (w c s : Bool) → (s ≡ true → (w ≡ true) × (c ≡ false)) → (s ≡ false → w ≡ true → c ≡ true) → (w && not c) ≡ s
    stands_by w c true one two = (let h = one refl in cc)
    stands_by true c false one two = ap not (two refl refl)
    stands_by false c false one two = refl

    stays_is_wanted : (x : Rule) → stays x here there_too ≡ true → has_rule x wanted.rules ≡ true
    stays_is_wanted x is = has_filtered x (is_rule_within fence) wanted.rules (has_filtered x (λ r. r.priority == priority) (rules_within fence wanted.rules) (stays_wanted x here there_too is))

    left_stand : minus goes (minus comes start_here) ≡ filter stands start_here
    left_stand =
        filtered_twice (λ x. not (has_rule x comes)) (λ x. not (has_rule x goes)) start_here
        ∙ filter_same (λ x. not (has_rule x comes) && not (has_rule x goes)) stands start_here
        (λ x x_in.
        let p = passed (λ (r : Rule). r.priority == priority) x (rules_within fence start.rules) x_in in
        let q = passed (is_rule_within fence) x start.rules p.0 in
        left_by (has_rule x comes) (has_rule x goes) (has_rule x wanted.rules) (does_not_go x) (goes_away x q.0 q.1))

    -- those that stand are found so
    abbrev stands_here : Rule → Bool
    stands_here x = is_rule_within fence x && (x.priority == priority && stands x)

    stand_at : (rules : List Rule) → filter stands (rules_at priority (rules_within fence rules)) ≡ filter stands_here rules
    stand_at rules = filtered_twice (λ (r : Rule). r.priority == priority) stands (rules_within fence rules) ∙ filtered_twice (is_rule_within fence) (λ x. x.priority == priority && stands x) rules

    stands_wanted : (x : Rule) → stands_here x ≡ true → has_rule x wanted.rules ≡ true
    stands_wanted x is = (and_parts (has_rule x wanted.rules) (not (has_rule x comes)) (and_parts (x.priority == priority) (stands x) (and_parts (is_rule_within fence x) (x.priority == priority && stands x) is).1).1).0

    found_stand : filter stands start_here ≡ filter stands here
    found_stand =
        stand_at start.rules
        ∙ clear_filtered stands_here (barring fence found wanted can) (first_plan fence found wanted can)
        (each_if (λ rule. (other : Rule) → stands_here other ≡ true → is_same_rule other rule ≡ false) (barring fence found wanted can)
        (λ rule rule_in other is. same_both_ways other rule ∙ each_in (λ r. is_same_rule r other ≡ false) rule (barring fence found wanted can) (barring_apart fence found wanted can other (stands_wanted other is)) rule_in))
        ∙ sym (stand_at found.rules)

    found_left : minus goes (minus comes start_here) ≡ filter (λ x. stays x here there_too) here
    found_left =
        left_stand ∙ found_stand
        ∙ filter_same stands (λ x. stays x here there_too) here
        (λ x x_in.
        let p = passed (λ (r : Rule). r.priority == priority) x (rules_within fence found.rules) x_in in
        let q = passed (is_rule_within fence) x found.rules p.0 in
        stands_by (has_rule x wanted.rules) (has_rule x comes) (stays x here there_too) (λ is. (stays_is_wanted x is, does_not_come x p.1 is)) (λ is_not has. comes_again x q.1 p.1 is_not has))

    come_here : rules_at priority comes ≡ filter (λ x. not (stays x here there_too)) there_too
    unfolding new_rules
    come_here =
        filters_commute (λ (r : Rule). r.priority == priority) (λ r. not (is_kept_one fence found wanted can r)) (rules_within fence wanted.rules)
        ∙ filter_same (λ r. not (is_kept_one fence found wanted can r)) (λ x. not (stays x here there_too)) there_too
        (λ x x_in. ap not (kept_here x (passed (λ (r : Rule). r.priority == priority) x (rules_within fence wanted.rules) x_in).1))

    wanted_left : minus goes (rules_at priority comes) ≡ filter (λ x. not (stays x here there_too)) there_too
    wanted_left =
        all_pass (λ x. not (has_rule x goes)) (rules_at priority comes)
        (each_if (λ x. not (has_rule x goes) ≡ true) (rules_at priority comes)
        (λ x x_in.
        let p = passed (λ (r : Rule). r.priority == priority) x comes x_in in
        ap not (does_not_go x (any_in (λ other. is_same_rule other x) x wanted.rules (coming_is fence found wanted can x p.0).wanted_too (same_itself x)))))
        ∙ come_here

    distinct_here : (rules : List Rule) → IsDistinct is_same_rule rules → IsDistinct is_same_rule (rules_at priority (rules_within fence rules))
    distinct_here rules apart = distinct_filtered is_same_rule (λ (r : Rule). r.priority == priority) (rules_within fence rules) (distinct_filtered is_same_rule (is_rule_within fence) rules apart)

    pub same_at : AreSame (rules_at priority (rules_within fence last.rules)) (rules_at priority (rules_within fence wanted.rules))
    same_at =
        ap (map without_id) (within_at ∙ ap (λ xs. xs ++ minus goes (rules_at priority comes)) found_left ∙ ap (λ xs. filter (λ x. stays x here there_too) here ++ xs) wanted_left)
        ∙ stays_run here there_too (distinct_here found.rules can.found_sound.distinct_rules) (distinct_here wanted.rules can.wanted_sound.distinct_rules)

  pub in_order : AreSame (rules_within fence last.rules) (rules_within fence wanted.rules)
  in_order =
      same_by_priority (rules_within fence last.rules) (rules_within fence wanted.rules)
      (rises_filtered (is_rule_within fence) last.rules last_rise)
      (rises_filtered (is_rule_within fence) wanted.rules (rises_by_priority wanted.rules can.wanted_sound.rules_rise))
      same_at

  -- ---- nothing differs

  abbrev end : State
  end = (reached fence found wanted can).state

  end_rules : AreSame end.rules last.rules
  end_rules = (reached fence found wanted can).rules_are

  end_routes : end.routes ≡ last_routes fence found wanted can
  end_routes = (reached fence found wanted can).routes_are

  still_wanted : wanted_routes fence end.routes wanted.routes ≡ wanted_ones fence found wanted can
  still_wanted = ap (λ kept. filter (λ route. not (has_key (key_of route) kept)) (managed_routes fence wanted.routes)) (ap (kept_routes fence) end_routes ∙ kept_same fence found wanted can)

  none_missing : missing_routes fence end.routes wanted.routes ≡ []
  none_missing =
      ap (filter (λ route. not (has_agreeing route end.routes))) still_wanted
      ∙ none_left (λ route. has_agreeing route end.routes) (wanted_ones fence found wanted can)
      (subst (λ routes. Each (λ route. has_agreeing route routes ≡ true) (wanted_ones fence found wanted can)) (sym end_routes) (routes_are_there fence found wanted can))

  key_of_sought : (route : Route) → list_any (λ one. agrees one route) (wanted_ones fence found wanted can) ≡ true → has_key (key_of route) (wanted_ones fence found wanted can) ≡ true
  key_of_sought route any =
      let w = in_any (λ one. agrees one route) (wanted_ones fence found wanted can) any in
      any_in (λ other. has_same_key other route) w.one (wanted_ones fence found wanted can) w.within (agreeing_key w.one route w.passes)

  none_unwanted : unwanted_routes fence end.routes wanted.routes ≡ []
  none_unwanted =
      ap (λ some. filter (λ route. not (has_key (key_of route) some)) (managed_routes fence end.routes)) still_wanted
      ∙ none_left (λ route. has_key (key_of route) (wanted_ones fence found wanted can)) (managed_routes fence end.routes)
      (each_implies (λ route. list_any (λ one. agrees one route) (wanted_ones fence found wanted can) ≡ true) (λ route. has_key (key_of route) (wanted_ones fence found wanted can) ≡ true) key_of_sought (managed_routes fence end.routes)
      (subst (λ routes. Each (λ route. list_any (λ one. agrees one route) (wanted_ones fence found wanted can) ≡ true) (managed_routes fence routes)) (sym end_routes) (end_routes_are_sought fence found wanted can)))

  not_both : (a b : Bool) → (a ≡ true → b ≡ true) → (a && not b) ≡ false
  not_both true b gives = ap not (gives refl)
  not_both false b gives = refl

  same_inside : (priority : ℕ) → AreSame (rules_at priority (rules_within fence end.rules)) (rules_at priority (rules_within fence wanted.rules))
  same_inside priority =
      same_filtered (λ (r : Rule). r.priority == priority) (no_id_at priority) (rules_within fence end.rules) (rules_within fence last.rules)
      (same_filtered (is_rule_within fence) (no_id_within fence) end.rules last.rules end_rules)
      ∙ same_at priority

  all_kept : (x : Rule) → IsIn x (rules_within fence wanted.rules) → is_kept_rule (rules_within fence end.rules) (rules_within fence wanted.rules) x ≡ true
  all_kept x x_in =
      same_stays x (rules_at x.priority (rules_within fence end.rules)) (rules_at x.priority (rules_within fence wanted.rules)) (same_inside x.priority)
      (any_in (λ other. is_same_rule other x) x (rules_at x.priority (rules_within fence wanted.rules)) (passing (λ (r : Rule). r.priority == x.priority) x (rules_within fence wanted.rules) x_in (eq-eqb x.priority x.priority refl)) (same_itself x))

  none_coming : coming_rules fence end.rules wanted.rules ≡ []
  unfolding new_rules
  none_coming =
      none_left (is_kept_rule (rules_within fence end.rules) (rules_within fence wanted.rules)) (rules_within fence wanted.rules)
      (each_if (λ rule. is_kept_rule (rules_within fence end.rules) (rules_within fence wanted.rules) rule ≡ true) (rules_within fence wanted.rules) all_kept)

  all_wanted : (x : Rule) → IsIn x end.rules → is_rule_within fence x ≡ true → has_rule x wanted.rules ≡ true
  all_wanted x x_in within =
      elim (sought_or_left fence found wanted can x within (sym (same_has x end.rules last.rules end_rules) ∙ any_in (λ other. is_same_rule other x) x end.rules x_in (same_itself x))) [
        | inl is ↦ is
        | inr told ↦ differ (sym told ∙ not_left x)
      ]

  none_going : going_rules fence end.rules wanted.rules ≡ []
  none_going =
      none_pass (λ rule. is_rule_within fence rule && not (has_rule rule wanted.rules)) end.rules
      (each_if (λ rule. (is_rule_within fence rule && not (has_rule rule wanted.rules)) ≡ false) end.rules (λ x x_in. not_both (is_rule_within fence x) (has_rule x wanted.rules) (all_wanted x x_in)))

  none_barring : barring_rules fence end.rules wanted.rules ≡ []
  none_barring = ap (filter (bars_one (coming_rules fence end.rules wanted.rules))) none_going

  abbrev made_of : List Route → List Rule → List Rule → Plan
  made_of early clear coming = bring_all coming (clear_all clear (replace_routes early (nothing_yet end.rules)))

  abbrev assembled : List Route → List Rule → List Rule → List Route → List Route → List Command
  assembled early clear coming late gone = (delete_routes gone (remove_all (going_rules fence (made_of early clear coming).rules wanted.rules) (replace_routes late (made_of early clear coming)))).commands

  nothing_differs : changes fence end wanted ≡ []
  nothing_differs =
      ap (λ missing. assembled (in_turn (early_routes end.rules missing)) (barring_rules fence end.rules wanted.rules) (coming_rules fence end.rules wanted.rules) (in_turn (late_routes end.rules missing)) (unwanted_routes fence end.routes wanted.routes)) none_missing
      ∙ ap (λ some. assembled some (barring_rules fence end.rules wanted.rules) (coming_rules fence end.rules wanted.rules) some (unwanted_routes fence end.routes wanted.routes)) no_turn
      ∙ ap (λ clear. assembled [] clear (coming_rules fence end.rules wanted.rules) [] (unwanted_routes fence end.routes wanted.routes)) none_barring
      ∙ ap (λ coming. assembled [] [] coming [] (unwanted_routes fence end.routes wanted.routes)) none_coming
      ∙ ap (λ gone. assembled [] [] [] [] gone) none_unwanted
      ∙ ap (λ going. (delete_routes [] (remove_all going (replace_routes [] (made_of [] [] [])))).commands) none_going

  pub settles : changes fence (end_of fence found wanted) wanted ≡ []
  settles = ap (λ s. changes fence s wanted) (reached fence found wanted can).leads.makes ∙ nothing_differs

module _ (fence : Fence) (found wanted : State) (can : CanBring fence found wanted) where
  abbrev end_state : State
  end_state = (reached fence found wanted can).state

  abbrev last_plan : Plan
  last_plan = fourth_plan fence found wanted can

  last_same : AreSame end_state.rules last_plan.rules
  last_same = (reached fence found wanted can).rules_are

  routes_same : end_state.routes ≡ last_routes fence found wanted can
  routes_same = (reached fence found wanted can).routes_are

  brought_there : IsBrought fence found wanted end_state (plan fence found wanted).left
  brought_there = record {
    rules_kept = same_filtered (λ rule. not (is_rule_within fence rule)) (no_id_beyond fence) end_state.rules last_plan.rules last_same ∙ ap (map without_id) (beyond_same fence found wanted can);
    rules_there = λ rule within has. same_has rule end_state.rules last_plan.rules last_same ∙ there fence found wanted can rule within has;
    rules_wanted = λ rule within has. sought_or_left fence found wanted can rule within (sym (same_has rule end_state.rules last_plan.rules last_same) ∙ has);
    rules_in_order = λ none. same_filtered (is_rule_within fence) (no_id_within fence) end_state.rules last_plan.rules last_same ∙ in_order fence found wanted can none;
    routes_kept = ap (kept_routes fence) routes_same ∙ kept_same fence found wanted can;
    routes_there = subst (λ routes. Each (λ route. has_agreeing route routes ≡ true) (wanted_ones fence found wanted can)) (sym routes_same) (routes_are_there fence found wanted can);
    routes_wanted = subst (λ routes. Each (λ route. list_any (λ one. agrees one route) (wanted_ones fence found wanted can) ≡ true) (managed_routes fence routes)) (sym routes_same) (end_routes_are_sought fence found wanted can);
  }

  pub is_brought : IsBrought fence found wanted (end_of fence found wanted) (plan fence found wanted).left
  is_brought = subst (λ state. IsBrought fence found wanted state (plan fence found wanted).left) (sym (reached fence found wanted can).leads.makes) brought_there
