use Rattle.std.proofs.Common.{◌≡◌, List, ap, ap₂, ◌∙◌}
use Rattle.prt_route.specs.declared.route.Route.{Route}
use Rattle.prt_rule.specs.declared.rule.Rule.{Rule}
use Rattle.prt_diff.specs.declared.fence.Fence.{Fence}
use Rattle.prt_diff.specs.Plan.{Plan, bring_all, clear_all, delete_routes, made, nothing_yet, plan_of, remove_all, replace_routes}
use Rattle.prt_diff.specs.Routes.{early_routes, in_turn, late_routes, missing_routes, unwanted_routes}
use Rattle.prt_diff.specs.Rules.{barring_rules, coming_rules, going_rules}
use Rattle.prt_diff.proofs.diff.changes.Goals as goal

abbrev made_of : Fence → List Rule → List Rule → List Route → Plan → Plan
made_of fence found wanted missing plan =
    replace_routes (in_turn (late_routes found missing)) (bring_all (coming_rules fence found wanted) (clear_all (barring_rules fence found wanted) (replace_routes (in_turn (early_routes found missing)) plan)))

abbrev gone : Fence → List Rule → List Route → List Route → Plan → Plan
gone fence wanted found_routes wanted_routes plan = delete_routes (unwanted_routes fence found_routes wanted_routes) (remove_all (going_rules fence plan.rules wanted) plan)

pub returns-clause-plan : goal.returns-clause-plan
returns-clause-plan c =
    let fence = c.args.fence.now in
    let f = c.args.found.now in
    let w = c.args.wanted.now in
    let rows = missing_routes fence f.routes w.routes in
    let missing : c.deref-3.result.now ≡ rows =
    c.deref-3.ensures.value ∙ c.in_ok-missing.ensures ∙ ap₂ (missing_routes fence) (c.deref.ensures.value ∙ c.in_ok-found_routes.ensures) (c.deref-2.ensures.value ∙ c.in_ok-wanted_routes.ensures) in
    let opened : plan_of c.in_ok-changes.changes ≡ nothing_yet f.rules = c.in_ok-changes.ensures ∙ ap nothing_yet c.rules.ensures.value in
    let come : plan_of c.make_missing.new.changes ≡ replace_routes (in_turn (late_routes f.rules rows)) (made fence f w) =
    c.in_ok-make_missing.ensures ∙ ap (λ found. made_of fence found c.rules-3.result.now c.deref-3.result.now (plan_of c.in_ok-changes.changes)) c.rules-2.ensures.value
    ∙ ap (λ wanted. made_of fence f.rules wanted c.deref-3.result.now (plan_of c.in_ok-changes.changes)) c.rules-3.ensures.value ∙ ap₂ (made_of fence f.rules w.rules) missing opened in
    c.in_ok-remove_unwanted.ensures ∙ ap (λ wanted. gone fence wanted c.deref-4.result.now c.deref-5.result.now (plan_of c.make_missing.new.changes)) c.rules-4.ensures.value
    ∙ ap₂ (λ found wanted. gone fence w.rules found wanted (plan_of c.make_missing.new.changes)) (c.deref-4.ensures.value ∙ c.in_ok-found_routes.ensures) (c.deref-5.ensures.value ∙ c.in_ok-wanted_routes.ensures)
    ∙ ap (gone fence w.rules f.routes w.routes) come
