-- The changes are accepted one after another, and each state along them is between both ends.
use Rattle.std.proofs.Common.{◌≡◌, inl, inr, ℕ, zero, suc, ◌+◌, ◌<◌, Bool, true, false, not, ◌&&◌, List, [], ◌∷◌, ◌++◌, length, map, refl, sym, ap, ◌∙◌, subst, arith}
use Rattle.std.specs.Prelude.{filter, ◌==◌, nat_le, is_none, if◌then◌else◌}
use Rattle.std.specs.List.{AllByRecursion as Each, Contains}
use Rattle.std.proofs.lemmas.Bool.{and_parts}
use Rattle.std.proofs.lemmas.Bool.Decides.{nat_tests}
use Rattle.std.proofs.lemmas.List.{length-append, length-map}
use Rattle.prt_addr.specs.Rising.{IsRising}
use Rattle.prt_addr.proofs.Orders.{rising_filtered}
use Rattle.prt_route.specs.Edit.{has_key}
use Rattle.prt_route.specs.Route.{is_listed_before, key_of}
use Rattle.prt_route.specs.declared.route.Route.{Route}
use Rattle.prt_rule.specs.Same.{is_same_rule}
use Rattle.prt_rule.specs.declared.rule.Rule.{Rule}
use Rattle.prt_trie.specs.Table.{has_same_key}
use Rattle.prt_version.specs.Change.{has_rule}
use Rattle.prt_version.specs.State.{State}
use Rattle.prt_version.proofs.RowOrder.{keys_both_ways}
use Rattle.prt_diff.specs.Between.{CanBring, EachState, IsBetween, end_of}
use Rattle.prt_diff.specs.Fence.{is_rule_within, rules_within}
use Rattle.prt_diff.specs.Plan.{Plan, bring_all, changes, clear_all, delete_routes, nothing_yet, plan, remove_all, replace_routes}
use Rattle.prt_diff.specs.Routes.{delete_route, early_routes, has_agreeing, gateways_are_found, highest_first, in_turn, is_early, is_kept, kept_routes, late_routes, managed_routes, missing_routes, put_all, rank, replace_route, unwanted_routes, wanted_routes}
use Rattle.prt_diff.specs.Rules.{barring_rules, bars_one, coming_rules, going_rules, is_kept_rule, new_rules}
use Rattle.prt_diff.specs.declared.fence.Fence.{Fence}
use Rattle.prt_diff.proofs.Finds.{is_unwanted, unwanted_are}
use Rattle.prt_diff.proofs.HasRule.{has_like, same_has, same_itself}
use Rattle.prt_diff.proofs.Leads.{each_state, leads_nowhere}
use Rattle.prt_diff.proofs.Members.{IsIn, any_in, differ, each_if, each_in, either, false_by, in_any, in_either, in_left, in_right, negated, passed, passing}
use Rattle.prt_diff.proofs.PlanSteps.{bring_from, bring_grows, bring_has, brings, clear_fits, clear_grows, clears, remove_gone, remove_grows, remove_keeps, remove_moves_none, removes_all}
use Rattle.prt_diff.proofs.Reached.{Reached, RoutesBetween, RulesBetween, is_between}
use Rattle.prt_diff.proofs.RouteSteps.{all_rise, has_its_key, none_fewer, one_of, put_in, puts, puts_pass, removes, same_of_key}

-- ---- the order of routes

highest_from : (n : ℕ) (route : Route) (routes : List Route) → IsIn route (highest_first n routes) → IsIn route routes
highest_from zero route routes within = absurd within
highest_from (suc n) route routes within =
    elim (in_either route (filter (λ (r : Route). rank r == n) routes) (highest_first n routes) within) [
      | inl here ↦ (passed (λ (r : Route). rank r == n) route routes here).0
      | inr later ↦ highest_from n route routes later
    ]

highest_into : (n : ℕ) (route : Route) (routes : List Route) → rank route < n → IsIn route routes → IsIn route (highest_first n routes)
highest_into zero route routes below within = absurd (omega (arith, below))
highest_into (suc n) route routes below within =
    elim (either (rank route == n)) [
      | inl here ↦ in_left route (filter (λ (r : Route). rank r == n) routes) (highest_first n routes) (passing (λ (r : Route). rank r == n) route routes within here)
      | inr there ↦ in_right route (filter (λ (r : Route). rank r == n) routes) (highest_first n routes) (highest_into n route routes (lower (rank route) n below there) within)
    ]
  where
    lower : (m n : ℕ) → m < suc n → (m == n) ≡ false → m < n
    lower m n below there = grind (arith, nat_tests, below, there)

rank_fits : (route : Route) → rank route < 66
rank_fits route = by (is_none route.via) (nat_le route.prefix.len 32) refl
  where
    by : (b c : Bool) → nat_le route.prefix.len 32 ≡ c → (if b then 33 else 0) + (if c then route.prefix.len else 32) < 66
    by true true is = grind (arith, nat_tests, is)
    by true false is = omega arith
    by false true is = grind (arith, nat_tests, is)
    by false false is = omega arith

turn_from : (route : Route) (routes : List Route) → IsIn route (in_turn routes) → IsIn route routes
unfolding in_turn
turn_from route routes within = highest_from 66 route routes within

turn_into : (route : Route) (routes : List Route) → IsIn route routes → IsIn route (in_turn routes)
unfolding in_turn
turn_into route routes within = highest_into 66 route routes (rank_fits route) within

put_both : (first second routes : List Route) → put_all (first ++ second) routes ≡ put_all second (put_all first routes)
put_both [] second routes = refl
put_both (route ∷ first) second routes = put_both first second _

-- ---- rules that come

pub record Comes (fence : Fence) (found wanted : State) (rule : Rule) : Type 0 where
  pub wanted_too : IsIn rule wanted.rules
  pub within : is_rule_within fence rule ≡ true
  pub new : is_kept_rule (rules_within fence found.rules) (rules_within fence wanted.rules) rule ≡ false

module _ (fence : Fence) (found wanted : State) (can : CanBring fence found wanted) where
  -- ---- which routes come

  abbrev pub wanted_ones : List Route
  wanted_ones = wanted_routes fence found.routes wanted.routes

  abbrev pub missing : List Route
  missing = missing_routes fence found.routes wanted.routes

  abbrev pub early : List Route
  early = in_turn (early_routes found.rules missing)

  abbrev pub late : List Route
  late = in_turn (late_routes found.rules missing)

  abbrev pub unwanted : Route → Bool
  unwanted = is_unwanted fence found.routes wanted.routes

  -- what is found, with all that comes
  abbrev pub all : List Route
  all = put_all (early ++ late) found.routes

  abbrev pub last_routes : List Route
  last_routes = filter (λ route. not (unwanted route)) all

  pub wanted_rise : IsRising is_listed_before wanted_ones
  wanted_rise = rising_filtered is_listed_before (λ route. not (has_key (key_of route) (kept_routes fence found.routes))) (managed_routes fence wanted.routes) (rising_filtered is_listed_before (λ route. not (is_kept fence route)) wanted.routes can.wanted_sound.routes_rise)

  abbrev pub is_early_one : Route → Bool
  is_early_one = is_early found.rules (gateways_are_found found.rules missing)

  pub coming_missing : (route : Route) → IsIn route (early ++ late) → IsIn route missing
  coming_missing route within =
      elim (in_either route early late within) [
        | inl first ↦ (passed is_early_one route missing (turn_from route (early_routes found.rules missing) first)).0
        | inr second ↦ (passed (λ (r : Route). not (is_early_one r)) route missing (turn_from route (late_routes found.rules missing) second)).0
      ]

  pub missing_come : (route : Route) → IsIn route missing → IsIn route (early ++ late)
  missing_come route within =
      elim (either (is_early_one route)) [
        | inl first ↦ in_left route early late (turn_into route (early_routes found.rules missing) (passing is_early_one route missing within first))
        | inr second ↦ in_right route early late (turn_into route (late_routes found.rules missing) (passing (λ (r : Route). not (is_early_one r)) route missing within (ap not second)))
      ]

  pub coming_wanted : (route : Route) → IsIn route (early ++ late) → IsIn route wanted_ones
  coming_wanted route within = (passed (λ r. not (has_agreeing r found.routes)) route wanted_ones (coming_missing route within)).0

  pub not_unwanted : (route one : Route) → IsIn one wanted_ones → has_same_key one route ≡ true → unwanted route ≡ false
  not_unwanted route one within same = ap (λ b. not (is_kept fence route) && not b) (any_in (λ other. has_same_key other route) one wanted_ones within same) ∙ and_false (not (is_kept fence route))
    where
      and_false : (b : Bool) → (b && false) ≡ false
      and_false true = refl
      and_false false = refl

  pub wanted_not_unwanted : (route : Route) → IsIn route wanted_ones → unwanted route ≡ false
  wanted_not_unwanted route within = not_unwanted route route within (has_its_key route)

  pub all_rises : IsRising is_listed_before all
  all_rises = all_rise (early ++ late) found.routes can.found_sound.routes_rise

  alike : (route : Route) → IsIn route (early ++ late) → (other : Route) → IsIn other (early ++ late) → has_same_key other route ≡ true → other ≡ route
  alike route within other other_in same = same_of_key wanted_ones other route wanted_rise (coming_wanted other other_in) (coming_wanted route within) same

  pub coming_last : (route : Route) → IsIn route (early ++ late) → IsIn route last_routes
  coming_last route within = passing (λ r. not (unwanted r)) route all (put_in route (early ++ late) found.routes (alike route within) within) (ap not (wanted_not_unwanted route (coming_wanted route within)))

  -- ---- which routes go

  unwanted_go : (route : Route) → IsIn route all → unwanted route ≡ true → has_key (key_of route) last_routes ≡ false
  unwanted_go route within goes =
      false_by (has_key (key_of route) last_routes)
      (λ has.
      let h = one_of (key_of route) last_routes has in
      let p = passed (λ r. not (unwanted r)) h.one all h.within in
      differ (sym goes ∙ ap unwanted (sym (same_of_key all h.one route all_rises p.0 within h.same)) ∙ negated (unwanted h.one) p.1))

  both_true : (a b : Bool) → (a && not b) ≡ true → b ≡ false
  both_true true b is = negated b is
  both_true false b is = differ (sym is)

  -- no route that goes has a wanted key
  pub free_of_unwanted : (route : Route) → IsIn route wanted_ones → has_key (key_of route) (filter unwanted found.routes) ≡ false
  free_of_unwanted route within =
      false_by (has_key (key_of route) (filter unwanted found.routes))
      (λ has.
      let h = one_of (key_of route) (filter unwanted found.routes) has in
      let p = passed unwanted h.one found.routes h.within in
      differ (sym (any_in (λ other. has_same_key other h.one) route wanted_ones within (keys_both_ways route h.one ∙ h.same)) ∙ both_true (not (is_kept fence h.one)) (has_key (key_of h.one) wanted_ones) p.1))

  go_the_same : filter unwanted all ≡ unwanted_routes fence found.routes wanted.routes
  go_the_same =
      puts_pass unwanted (early ++ late) found.routes
      (each_if (λ route. unwanted route ≡ false) (early ++ late) (λ route within. wanted_not_unwanted route (coming_wanted route within)))
      (each_if (λ route. has_key (key_of route) (filter unwanted found.routes) ≡ false) (early ++ late) (λ route within. free_of_unwanted route (coming_wanted route within)))
      ∙ sym (unwanted_are fence found.routes wanted.routes)

  -- ---- the plan, step by step

  abbrev pub coming : List Rule
  coming = coming_rules fence found.rules wanted.rules

  -- the rule is found so, among those of its priority
  abbrev pub is_kept_one : Rule → Bool
  is_kept_one = is_kept_rule (rules_within fence found.rules) (rules_within fence wanted.rules)

  pub coming_is : (rule : Rule) → IsIn rule coming → Comes fence found wanted rule
  unfolding new_rules
  coming_is rule rule_in =
      let p = passed (λ r. not (is_kept_one r)) rule (rules_within fence wanted.rules) rule_in in
      let q = passed (is_rule_within fence) rule wanted.rules p.0 in
      record { wanted_too = q.0; within = q.1; new = negated (is_kept_one rule) p.1 }

  pub is_coming : (rule : Rule) → IsIn rule wanted.rules → is_rule_within fence rule ≡ true → is_kept_one rule ≡ false → IsIn rule coming
  unfolding new_rules
  is_coming rule rule_in within new = passing (λ r. not (is_kept_one r)) rule (rules_within fence wanted.rules) (passing (is_rule_within fence) rule wanted.rules rule_in within) (ap not new)

  abbrev pub barring : List Rule
  barring = barring_rules fence found.rules wanted.rules

  abbrev pub first_plan : Plan
  first_plan = replace_routes early (nothing_yet found.rules)

  abbrev pub clear_plan : Plan
  clear_plan = clear_all barring first_plan

  abbrev pub second_plan : Plan
  second_plan = bring_all coming clear_plan

  -- the rules that go, of those that are there then
  abbrev pub going : List Rule
  going = going_rules fence second_plan.rules wanted.rules

  abbrev pub third_plan : Plan
  third_plan = replace_routes late second_plan

  abbrev pub fourth_plan : Plan
  fourth_plan = remove_all going third_plan

  abbrev pub gone_routes : List Route
  gone_routes = unwanted_routes fence found.routes wanted.routes

  -- the rules and the routes at the end
  abbrev pub last_state : State
  last_state = record { count = 0; rules = fourth_plan.rules; routes = last_routes }

  and_not : (a b : Bool) → (a && not b) ≡ true → b ≡ false
  and_not true b is = negated b is
  and_not false b is = differ (sym is)

  unlike_wanted : (rule other : Rule) → has_rule rule wanted.rules ≡ true → has_rule other wanted.rules ≡ false → is_same_rule other rule ≡ false
  unlike_wanted rule other has absent = false_by (is_same_rule other rule) (λ same. differ (sym has ∙ sym (has_like other rule wanted.rules same) ∙ absent))

  pub going_apart : (rule : Rule) → has_rule rule wanted.rules ≡ true → Each (λ other. is_same_rule other rule ≡ false) going
  going_apart rule has =
      each_if (λ other. is_same_rule other rule ≡ false) going
      (λ other within.
      let p = passed (λ r. is_rule_within fence r && not (has_rule r wanted.rules)) other second_plan.rules within in
      unlike_wanted rule other has (and_not (is_rule_within fence other) (has_rule other wanted.rules) p.1))

  -- a rule that goes early is one that is found within the fence, and not wanted
  pub barring_is : (rule : Rule) → IsIn rule barring → (is_rule_within fence rule ≡ true) × (has_rule rule wanted.rules ≡ false)
  barring_is rule rule_in =
      let p = passed (bars_one coming) rule (going_rules fence found.rules wanted.rules) rule_in in
      let q = passed (λ r. is_rule_within fence r && not (has_rule r wanted.rules)) rule found.rules p.0 in
      ((and_parts (is_rule_within fence rule) (not (has_rule rule wanted.rules)) q.1).0, and_not (is_rule_within fence rule) (has_rule rule wanted.rules) q.1)

  pub barring_apart : (rule : Rule) → has_rule rule wanted.rules ≡ true → Each (λ other. is_same_rule other rule ≡ false) barring
  barring_apart rule has = each_if (λ other. is_same_rule other rule ≡ false) barring (λ other within. unlike_wanted rule other has (barring_is other within).1)

  came_wanted : (rule : Rule) → has_rule rule coming ≡ true → has_rule rule wanted.rules ≡ true
  came_wanted rule came =
      let w = in_any (λ other. is_same_rule other rule) coming came in
      any_in (λ other. is_same_rule other rule) w.one wanted.rules (coming_is w.one w.within).wanted_too w.passes

  -- a rule that goes early never comes again
  barring_gone : Each (λ rule. has_rule rule clear_plan.rules ≡ false → has_rule rule fourth_plan.rules ≡ false) barring
  barring_gone =
      each_if (λ rule. has_rule rule clear_plan.rules ≡ false → has_rule rule fourth_plan.rules ≡ false) barring
      (λ rule within absent.
      remove_gone rule going third_plan
      (false_by (has_rule rule second_plan.rules)
      (λ has. elim (bring_from rule coming clear_plan has) [
        | inl came ↦ differ (sym (came_wanted rule came) ∙ (barring_is rule within).1)
        | inr there ↦ differ (sym there ∙ absent)
      ])))

  come_at_last : Each (λ rule. has_rule rule fourth_plan.rules ≡ true) coming
  come_at_last =
      each_if (λ rule. has_rule rule fourth_plan.rules ≡ true) coming
      (λ rule within.
      remove_keeps rule going third_plan
      (going_apart rule (any_in (λ other. is_same_rule other rule) rule wanted.rules (coming_is rule within).wanted_too (same_itself rule)))
      (each_in (λ r. has_rule r second_plan.rules ≡ true) rule coming (bring_has coming clear_plan) within))

  start : Reached found last_state second_plan.moved (nothing_yet found.rules) found.routes
  start =
      let rules : RulesBetween found last_state second_plan.moved found.rules = record { of_both = λ rule first last still. first; of_one = λ rule has. inl has } in
      let routes : RoutesBetween found last_state found.routes = record { of_both = λ key first last. first; of_one = λ route within. inl within } in
      record {
        state = found;
        leads = leads_nowhere (IsBetween found last_state second_plan.moved) found can.found_sound (is_between found last_state found second_plan.moved found.rules found.routes refl refl rules routes);
        rules_are = refl;
        routes_are = refl;
        rules_between = rules;
        routes_between = routes;
      }

  pub reached : Reached found last_state second_plan.moved (plan fence found wanted) last_routes
  reached =
      let room = can.room.routes in
      let counts = can.room.commands in
      let l1 = length-map early replace_route in
      let c1 = clear_grows barring first_plan in
      let c2 = clear_fits barring first_plan in
      let l2 = bring_grows coming clear_plan in
      let l3 = length-append second_plan.commands (map replace_route late) in
      let k3 = length-map late replace_route in
      let l4 = remove_grows going third_plan in
      let l5 = length-append fourth_plan.commands (map delete_route gone_routes) in
      let k5 = length-map gone_routes delete_route in
      let both = put_both early late found.routes in
      let early_rise = all_rise early found.routes can.found_sound.routes_rise in
      let grows = none_fewer late (put_all early found.routes) early_rise in
      let same = ap length both in
      let g5 = ap length go_the_same in
      let one : Reached found last_state second_plan.moved first_plan (put_all early found.routes) =
      puts found last_state second_plan.moved early (nothing_yet found.rules) found.routes start
      (each_if (λ route. IsIn route last_routes) early (λ route within. coming_last route (in_left route early late within)))
      can.found_sound.routes_rise (omega (arith, room, grows, same)) (omega (arith, counts, l1, c1, l2, l3, k3, l4, l5, k5)) in
      let clear : Reached found last_state second_plan.moved clear_plan (put_all early found.routes) =
      clears found last_state second_plan.moved (put_all early found.routes) barring first_plan one barring_gone (omega (arith, counts, l2, l3, l4, l5)) in
      let two : Reached found last_state second_plan.moved second_plan (put_all early found.routes) =
      brings found last_state second_plan.moved (put_all early found.routes) coming clear_plan clear come_at_last (λ x has. has) (omega (arith, can.room.rules, c2)) (omega (arith, counts, l3, l4, l5)) in
      let three : Reached found last_state second_plan.moved third_plan (put_all late (put_all early found.routes)) =
      puts found last_state second_plan.moved late second_plan (put_all early found.routes) two
      (each_if (λ route. IsIn route last_routes) late (λ route within. coming_last route (in_right route early late within)))
      early_rise (omega (arith, room, same)) (omega (arith, counts, l3, k3, l4, l5)) in
      let four : Reached found last_state second_plan.moved fourth_plan (put_all late (put_all early found.routes)) =
      removes_all found last_state second_plan.moved (put_all late (put_all early found.routes)) going third_plan three (λ x absent. absent) (omega (arith, counts, l5)) in
      subst (λ gone. Reached found last_state second_plan.moved (delete_routes gone fourth_plan) last_routes) go_the_same
      (removes found last_state second_plan.moved unwanted all [] fourth_plan
      (subst (Reached found last_state second_plan.moved fourth_plan) (sym both) four)
      (each_if (λ route. unwanted route ≡ true → has_key (key_of route) last_routes ≡ false) all unwanted_go)
      all_rises (omega (arith, counts, l5, k5, g5)))

  -- ---- and so at the end

  pub moved_are : (plan fence found wanted).moved ≡ second_plan.moved
  moved_are = remove_moves_none going third_plan

  to_the_end : (state : State) → IsBetween found last_state second_plan.moved state → IsBetween found reached.state (plan fence found wanted).moved state
  to_the_end state between = record {
    rules_of_both = λ rule first last still. between.rules_of_both rule first (sym (same_has rule reached.state.rules fourth_plan.rules reached.rules_are) ∙ last) (ap (has_rule rule) (sym moved_are) ∙ still);
    rules_of_one = λ rule has. elim (between.rules_of_one rule has) [
      | inl first ↦ inl first
      | inr last ↦ inr (same_has rule reached.state.rules fourth_plan.rules reached.rules_are ∙ last)
    ];
    keys_of_both = λ key first last. between.keys_of_both key first (ap (has_key key) (sym reached.routes_are) ∙ last);
    routes_of_one = λ route has. elim (between.routes_of_one route has) [
      | inl first ↦ inl first
      | inr last ↦ inr (subst (λ routes. Contains routes route) (sym reached.routes_are) last)
    ];
  }

  pub each_between : EachState (IsBetween found (end_of fence found wanted) (plan fence found wanted).moved) found (changes fence found wanted)
  each_between =
      subst (λ end. EachState (IsBetween found end (plan fence found wanted).moved) found (changes fence found wanted)) (sym reached.leads.makes)
      (each_state (IsBetween found last_state second_plan.moved) (IsBetween found reached.state (plan fence found wanted).moved) to_the_end found (changes fence found wanted) reached.leads.each)
