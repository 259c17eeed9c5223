use Rattle.std.specs.List.{AllWithin}
use Rattle.prt_spelling.specs.Fits.{CommandFits}
use Rattle.prt_dump.specs.Dump.{add_route}
use Rattle.prt_dump.proofs.fits.recall_routes.Given as goal

abbrev pub invariant-loop-route : goal.invariant-loop-route
invariant-loop-route l = AllWithin (λ route. CommandFits (add_route route)) l.routes 0 l.route-index
