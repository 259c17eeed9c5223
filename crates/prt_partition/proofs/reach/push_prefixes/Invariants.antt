use Rattle.std.proofs.Common.{◌≡◌, ◌++◌, drop}
use Rattle.std.specs.Prelude.{map}
use Rattle.prt_route.specs.declared.route.Route.{Route}
use Rattle.prt_partition.proofs.reach.push_prefixes.Given as goal

abbrev pub invariant-loop-route : goal.invariant-loop-route
invariant-loop-route l = l.blocks.items ++ map (λ (route : Route). route.prefix) (drop l.route-index l.routes) ≡ l.fn.blocks.items ++ map (λ (route : Route). route.prefix) l.routes
