use Rattle.std.proofs.Common.{◌≡◌, ◌++◌, ◌&&◌, map, take}
use Rattle.std.specs.Prelude.{filter, is_some}
use Rattle.prt_route.specs.declared.route.Route.{Route}
use Rattle.prt_diff.specs.Replacing.{is_put_back}
use Rattle.prt_diff.specs.Routes.{replace_route}
use Rattle.prt_diff.proofs.replacing.push_gateway_routes.Given as goal

abbrev pub invariant-loop-route : goal.invariant-loop-route
invariant-loop-route l = l.commands.items ≡ l.fn.commands.items ++ map replace_route (filter (λ (route : Route). is_put_back route && is_some route.via) (take l.route-index l.routes))
