use Rattle.std.proofs.Common.{rules}
use Rattle.std.proofs.lemmas.List.Elements.{AllWithin-more, at_read}
use Rattle.prt_spelling.specs.Fits.{CommandFits}
use Rattle.prt_dump.specs.Dump.{add_route}
use Rattle.prt_dump.proofs.fits.recall_routes.Goals as goal

pub loop-route-preserved : goal.loop-route-preserved
loop-route-preserved c = AllWithin-more (λ route. CommandFits (add_route route)) c.args.routes.now 0 c.loop-route.route-index c.loop-route.invariant (at_read c.args.routes.now (λ route. CommandFits (add_route route)) c.loop-route.route-index c.route-item.result (search rules) c.route-item.is c.recall_route.ensures)
