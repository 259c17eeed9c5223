use Rattle.std.proofs.Common.{◌≡◌, ◌++◌, map, take}
use Rattle.std.specs.Prelude.{filter, ◌==◌}
use Rattle.prt_route.specs.declared.route.Route.{Route}
use Rattle.prt_diff.specs.Routes.{rank, replace_route}
use Rattle.prt_diff.proofs.routes.push_ranked.Given as goal

abbrev pub invariant-loop-route : goal.invariant-loop-route
invariant-loop-route l = l.commands.items ≡ l.fn.commands.items ++ map replace_route (filter (λ (route : Route). rank route == l.n) (take l.route-index l.routes))
