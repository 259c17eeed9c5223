use Rattle.std.proofs.Common.{◌≡◌, [], ◌∷◌, ◌++◌, sym, ◌∙◌, subst}
use Rattle.prt_addr.specs.Rising.{IsRising}
use Rattle.prt_route.specs.Route.{is_listed_before}
use Rattle.prt_diff.specs.Routes.{delete_route}
use Rattle.prt_diff.proofs.Applying.RouteWalks.{rises_from, unwanted_more, unwanted_on}
use Rattle.prt_diff.proofs.apply.routes.push_unwanted_routes.Goals as goal
use Rattle.prt_diff.proofs.apply.routes.push_unwanted_routes.Goals.{then-not-has_first_key+in_ok-extend_from_slice, else-not-has_first_key}

pub loop-route-preserved : goal.loop-route-preserved
loop-route-preserved c = record {
  rises = subst (IsRising is_listed_before) (sym c.routes_from-rest.ensures) (rises_from c.route-item.result c.loop-route.rest.now c.loop-route.invariant.rises);
  held = elim c.if-not-has_first_key.branch [
    | then-not-has_first_key+in_ok-extend_from_slice w ↦
        (let pushed : c.if-not-has_first_key.commands.items ≡ c.loop-route.commands.items ++ delete_route c.route-item.result ∷ [] = cc (w.in_ok-extend_from_slice.ensures.items) in
        unwanted_more c.args.found.now c.routes_from-rest.result.now c.loop-route.rest.now c.loop-route.route-index c.route-item.result c.loop-route.commands.items c.if-not-has_first_key.commands.items _
        c.loop-route-test.true c.route-item.is c.requires.found c.loop-route.invariant.rises c.routes_from-rest.ensures
        c.loop-route.invariant.held (sym c.has_first_key.ensures ∙ w.if-not-has_first_key.true) pushed)
    | else-not-has_first_key w ↦
        (let same : c.if-not-has_first_key.commands.items ≡ c.loop-route.commands.items = cc in
        unwanted_on c.args.found.now c.routes_from-rest.result.now c.loop-route.rest.now c.loop-route.route-index c.route-item.result c.loop-route.commands.items c.if-not-has_first_key.commands.items _
        c.loop-route-test.true c.route-item.is c.requires.found c.loop-route.invariant.rises c.routes_from-rest.ensures
        c.loop-route.invariant.held (sym c.has_first_key.ensures ∙ w.if-not-has_first_key.false) same)
  ];
}
