use Rattle.std.proofs.Common.{◌≡◌, [], ◌∷◌, ◌++◌, sym, ◌∙◌, subst}
use Rattle.prt_addr.specs.Rising.{IsRising}
use Rattle.prt_route.specs.Route.{is_listed_before}
use Rattle.prt_diff.specs.Routes.{replace_route}
use Rattle.prt_diff.proofs.Applying.RouteWalks.{rises_from, missing_more, missing_on}
use Rattle.prt_diff.proofs.apply.routes.push_missing_routes.Goals as goal
use Rattle.prt_diff.proofs.apply.routes.push_missing_routes.Goals.{then-not-is_first+in_ok-extend_from_slice, else-not-is_first}

pub loop-route-preserved : goal.loop-route-preserved
loop-route-preserved c = record {
  rises = subst (IsRising is_listed_before) (sym c.routes_from-rest.ensures) (rises_from c.route-item.result c.loop-route.rest.now c.loop-route.invariant.rises);
  held = elim c.if-not-is_first.branch [
    | then-not-is_first+in_ok-extend_from_slice w ↦
        (let pushed : c.if-not-is_first.commands.items ≡ c.loop-route.commands.items ++ replace_route c.route-item.result ∷ [] = cc (w.in_ok-extend_from_slice.ensures.items) in
        missing_more c.args.wanted.now c.routes_from-rest.result.now c.loop-route.rest.now c.loop-route.route-index c.route-item.result c.loop-route.commands.items c.if-not-is_first.commands.items _
        c.loop-route-test.true c.route-item.is c.requires.wanted c.loop-route.invariant.rises c.routes_from-rest.ensures
        c.loop-route.invariant.held (sym c.is_first.ensures ∙ w.if-not-is_first.true) pushed)
    | else-not-is_first w ↦
        (let same : c.if-not-is_first.commands.items ≡ c.loop-route.commands.items = cc in
        missing_on c.args.wanted.now c.routes_from-rest.result.now c.loop-route.rest.now c.loop-route.route-index c.route-item.result c.loop-route.commands.items c.if-not-is_first.commands.items _
        c.loop-route-test.true c.route-item.is c.requires.wanted c.loop-route.invariant.rises c.routes_from-rest.ensures
        c.loop-route.invariant.held (sym c.is_first.ensures ∙ w.if-not-is_first.false) same)
  ];
}
