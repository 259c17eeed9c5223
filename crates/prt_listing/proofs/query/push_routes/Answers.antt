use Rattle.prt_listing.specs.RouteText.{route_text}
use Rattle.prt_listing.proofs.Kept.{anyhow, keeps_before}
use Rattle.prt_listing.proofs.ListingLines.{listed_more}
use Rattle.prt_listing.proofs.query.push_routes.Goals as goal

pub loop-route-preserved : goal.loop-route-preserved
loop-route-preserved c = listed_more (λ route. route_text route c.args.table) c.args.routes.now c.loop-route.route-index c.route-item.result _ _ _ c.loop-route-test.true c.route-item.is c.loop-route.invariant c.in_ok-push_route_line.ensures.ok

pub returns-in_err-push_route_line-clause-err : goal.returns-in_err-push_route_line-clause-err
returns-in_err-push_route_line-clause-err c = anyhow c.from_residual.result _ (keeps_before _ _ _ _ c.loop-route.invariant c.in_err-push_route_line.ensures.err)
