use Rattle.std.proofs.Common.{rules, ◌≡◌, ◌∙◌, ap, sym}
use Rattle.std.specs.Prelude.{filter}
use Rattle.std.proofs.lemmas.Fn.{filter_same}
use Rattle.prt_addr.specs.Order.{first_by}
use Rattle.prt_route.specs.Route.{is_better}
use Rattle.prt_route.specs.declared.route.Route.{Route}
use Rattle.prt_explain.proofs.Lookups.{found_by}
use Rattle.prt_explain.proofs.lookup.look_up.Goals as goal

pub returns : goal.returns
returns c =
    let kept : c.retain.new.self.items ≡ filter (λ (route : Route). is_better c.in-Some.best route) c.in_ok-routes.routes.items = filter_same _ _ _ (λ x b f' k. search rules) _ _ c.retain.ensures.filtered in
    found_by c.args.version.now.routes c.args.table c.args.addr c.in-Some.best c.best_of-runner_up.result c.in_ok-routes.routes.items c.retain.new.self.items
    c.in_ok-routes.ensures
    (ap (first_by is_better) (sym c.deref.ensures.value) ∙ sym c.in-Some.ensures)
    kept
    (c.best_of-runner_up.ensures ∙ ap (first_by is_better) c.deref-2.ensures.value)
