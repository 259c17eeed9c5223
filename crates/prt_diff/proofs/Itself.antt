-- A state needs no changes to become itself.
use Rattle.std.proofs.Common.{◌≡◌, Bool, true, false, not, ◌&&◌, List, [], refl, sym, ap, ◌∙◌}
use Rattle.std.specs.Prelude.{filter, ◌==◌}
use Rattle.std.proofs.lemmas.Bool.{eq-eqb}
use Rattle.prt_route.specs.Edit.{has_key}
use Rattle.prt_route.specs.Route.{key_of}
use Rattle.prt_route.specs.declared.route.Route.{Route}
use Rattle.prt_rule.specs.Same.{is_same_rule}
use Rattle.prt_rule.specs.declared.rule.Rule.{Rule}
use Rattle.prt_command.specs.declared.request.Command.{Command}
use Rattle.prt_trie.specs.Table.{has_same_key}
use Rattle.prt_version.specs.Change.{has_rule}
use Rattle.prt_version.specs.Sound.{IsSound}
use Rattle.prt_version.specs.State.{State}
use Rattle.prt_diff.specs.Fence.{is_rule_within, rules_within}
use Rattle.prt_diff.specs.Plan.{Plan, bring_all, changes, clear_all, delete_routes, nothing_yet, remove_all, replace_routes}
use Rattle.prt_diff.specs.Routes.{agrees, early_routes, has_agreeing, in_turn, is_kept, kept_routes, late_routes, managed_routes, missing_routes, unwanted_routes, wanted_routes}
use Rattle.prt_diff.specs.Rules.{barring_rules, bars_one, coming_rules, going_rules, is_kept_rule, new_rules, rules_at}
use Rattle.prt_diff.specs.declared.fence.Fence.{Fence}
use Rattle.prt_diff.proofs.End.{agrees_itself}
use Rattle.prt_diff.proofs.HasRule.{same_itself}
use Rattle.prt_diff.proofs.Members.{IsIn, any_in, differ, each_if, false_by, negated, none_left, none_pass, passed, passing}
use Rattle.prt_diff.proofs.Order.{same_stays}
use Rattle.prt_diff.proofs.RouteSteps.{has_its_key, one_of, same_of_key}
use Rattle.prt_diff.proofs.Settled.{no_turn}

not_both : (a b : Bool) → b ≡ true → (a && not b) ≡ false
not_both true b is = ap not is
not_both false b is = refl

module _ (fence : Fence) (state : State) (sound : IsSound state) where
  free : (route : Route) → IsIn route state.routes → is_kept fence route ≡ false → has_key (key_of route) (kept_routes fence state.routes) ≡ false
  free route within managed =
      false_by (has_key (key_of route) (kept_routes fence state.routes))
      (λ has.
      let h = one_of (key_of route) (kept_routes fence state.routes) has in
      let p = passed (is_kept fence) h.one state.routes h.within in
      differ (sym p.1 ∙ ap (is_kept fence) (same_of_key state.routes h.one route sound.routes_rise p.0 within h.same) ∙ managed))

  none_missing : missing_routes fence state.routes state.routes ≡ []
  none_missing =
      none_left (λ route. has_agreeing route state.routes) (wanted_routes fence state.routes state.routes)
      (each_if (λ route. has_agreeing route state.routes ≡ true) (wanted_routes fence state.routes state.routes)
      (λ route within.
      let p = passed (λ r. not (has_key (key_of r) (kept_routes fence state.routes))) route (managed_routes fence state.routes) within in
      any_in (agrees route) route state.routes (passed (λ r. not (is_kept fence r)) route state.routes p.0).0 (agrees_itself route)))

  none_unwanted : unwanted_routes fence state.routes state.routes ≡ []
  none_unwanted =
      none_left (λ route. has_key (key_of route) (wanted_routes fence state.routes state.routes)) (managed_routes fence state.routes)
      (each_if (λ route. has_key (key_of route) (wanted_routes fence state.routes state.routes) ≡ true) (managed_routes fence state.routes)
      (λ route within.
      let p = passed (λ r. not (is_kept fence r)) route state.routes within in
      any_in (λ other. has_same_key other route) route (wanted_routes fence state.routes state.routes)
      (passing (λ r. not (has_key (key_of r) (kept_routes fence state.routes))) route (managed_routes fence state.routes) within (ap not (free route p.0 (negated (is_kept fence route) p.1))))
      (has_its_key route)))

  abbrev inside : List Rule
  inside = rules_within fence state.rules

  none_coming : coming_rules fence state.rules state.rules ≡ []
  unfolding new_rules
  none_coming =
      none_left (is_kept_rule inside inside) inside
      (each_if (λ rule. is_kept_rule inside inside rule ≡ true) inside
      (λ x x_in.
      same_stays x (rules_at x.priority inside) (rules_at x.priority inside) refl
      (any_in (λ other. is_same_rule other x) x (rules_at x.priority inside) (passing (λ (r : Rule). r.priority == x.priority) x inside x_in (eq-eqb x.priority x.priority refl)) (same_itself x))))

  none_going : going_rules fence state.rules state.rules ≡ []
  none_going =
      none_pass (λ rule. is_rule_within fence rule && not (has_rule rule state.rules)) state.rules
      (each_if (λ rule. (is_rule_within fence rule && not (has_rule rule state.rules)) ≡ false) state.rules
      (λ x x_in. not_both (is_rule_within fence x) (has_rule x state.rules) (any_in (λ other. is_same_rule other x) x state.rules x_in (same_itself x))))

  none_barring : barring_rules fence state.rules state.rules ≡ []
  none_barring = ap (filter (bars_one (coming_rules fence state.rules state.rules))) none_going

  abbrev made_of : List Route → List Rule → List Rule → Plan
  made_of early clear coming = bring_all coming (clear_all clear (replace_routes early (nothing_yet state.rules)))

  abbrev assembled : List Route → List Rule → List Rule → List Route → List Route → List Command
  assembled early clear coming late gone = (delete_routes gone (remove_all (going_rules fence (made_of early clear coming).rules state.rules) (replace_routes late (made_of early clear coming)))).commands

  pub needs_none : changes fence state state ≡ []
  needs_none =
      ap (λ missing. assembled (in_turn (early_routes state.rules missing)) (barring_rules fence state.rules state.rules) (coming_rules fence state.rules state.rules) (in_turn (late_routes state.rules missing)) (unwanted_routes fence state.routes state.routes)) none_missing
      ∙ ap (λ some. assembled some (barring_rules fence state.rules state.rules) (coming_rules fence state.rules state.rules) some (unwanted_routes fence state.routes state.routes)) no_turn
      ∙ ap (λ clear. assembled [] clear (coming_rules fence state.rules state.rules) [] (unwanted_routes fence state.routes state.routes)) none_barring
      ∙ ap (λ coming. assembled [] [] coming [] (unwanted_routes fence state.routes state.routes)) none_coming
      ∙ ap (λ gone. assembled [] [] [] [] gone) none_unwanted
      ∙ ap (λ going. (delete_routes [] (remove_all going (replace_routes [] (made_of [] [] [])))).commands) none_going
