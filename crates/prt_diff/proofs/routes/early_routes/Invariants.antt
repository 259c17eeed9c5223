use Rattle.std.proofs.Common.{◌≡◌, take}
use Rattle.std.specs.Prelude.{filter}
use Rattle.prt_route.specs.declared.route.Route.{Route}
use Rattle.prt_diff.specs.Routes.{is_early}
use Rattle.prt_diff.proofs.routes.early_routes.Given as goal

abbrev pub invariant-loop-route : goal.invariant-loop-route
invariant-loop-route l = l.early.items ≡ filter (λ (route : Route). is_early l.rules l.gateways route) (take l.route-index l.routes)
