use Rattle.std.proofs.Common.{◌≡◌, ◌++◌, map, sym, ap, ◌∙◌, subst, append_assoc}
use Rattle.std.specs.Prelude.{All}
use Rattle.prt_command.specs.Storable.{IsStorable}
use Rattle.prt_diff.specs.Routes.{delete_route, replace_route}
use Rattle.prt_diff.specs.Apply.Plan.{plan}
use Rattle.prt_diff.specs.Apply.Routes.{missing_routes, unwanted_routes}
use Rattle.prt_diff.specs.Apply.Rules.{rule_changes}
use Rattle.prt_diff.proofs.Applying.Stored.{plan_storable}
use Rattle.prt_diff.proofs.apply.planning.plan.Goals as goal

commands_are : (c : goal.After-drop-found_routes-2) → c.push_unwanted_routes.new.commands.items ≡ plan c.args.found.now c.args.wanted.now
commands_are c =
    let f = c.args.found.now in
    let w = c.args.wanted.now in
    let found_routes : c.in_ok-found_routes.found_routes.items ≡ f.routes = c.in_ok-found_routes.ensures in
    let wanted_routes : c.in_ok-wanted_routes.wanted_routes.items ≡ w.routes = c.in_ok-wanted_routes.ensures in
    let missing : missing_routes c.deref.result.now c.deref-2.result.now ≡ missing_routes f.routes w.routes =
    ap (λ routes. missing_routes routes c.deref-2.result.now) (c.deref.ensures.value ∙ found_routes) ∙ ap (missing_routes f.routes) (c.deref-2.ensures.value ∙ wanted_routes) in
    let changes : rule_changes c.rules.result.now c.rules-2.result.now ≡ rule_changes f.rules w.rules =
    ap (λ rules. rule_changes rules c.rules-2.result.now) c.rules.ensures.value ∙ ap (rule_changes f.rules) c.rules-2.ensures.value in
    let unwanted : unwanted_routes c.deref-3.result.now c.deref-4.result.now ≡ unwanted_routes f.routes w.routes =
    ap (λ routes. unwanted_routes routes c.deref-4.result.now) (c.deref-3.ensures.value ∙ found_routes) ∙ ap (unwanted_routes f.routes) (c.deref-4.ensures.value ∙ wanted_routes) in
    let first : c.push_missing_routes.new.commands.items ≡ map replace_route (missing_routes f.routes w.routes) =
    c.in_ok-push_missing_routes.ensures ∙ ap (λ items. items ++ map replace_route (missing_routes c.deref.result.now c.deref-2.result.now)) c.new-commands.ensures.items ∙ ap (map replace_route) missing in
    let second : c.push_rule_changes.new.commands.items ≡ map replace_route (missing_routes f.routes w.routes) ++ rule_changes f.rules w.rules =
    c.in_ok-push_rule_changes.ensures ∙ ap (λ items. items ++ rule_changes c.rules.result.now c.rules-2.result.now) first ∙ ap (λ items. map replace_route (missing_routes f.routes w.routes) ++ items) changes in
    c.in_ok-push_unwanted_routes.ensures
    ∙ ap (λ items. items ++ map delete_route (unwanted_routes c.deref-3.result.now c.deref-4.result.now)) second
    ∙ ap (λ routes. (map replace_route (missing_routes f.routes w.routes) ++ rule_changes f.rules w.rules) ++ map delete_route routes) unwanted
    ∙ append_assoc (map replace_route (missing_routes f.routes w.routes)) (rule_changes f.rules w.rules) (map delete_route (unwanted_routes f.routes w.routes))

pub returns-clause-commands : goal.returns-clause-commands
returns-clause-commands c = commands_are c

pub returns-clause-storable : goal.returns-clause-storable
returns-clause-storable c = λ storable. subst (All IsStorable) (sym (commands_are c)) (plan_storable c.args.found.now c.args.wanted.now storable)
