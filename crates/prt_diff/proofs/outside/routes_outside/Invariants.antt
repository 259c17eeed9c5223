use Rattle.std.proofs.Common.{◌≡◌, ◌≤◌, ◌&&◌, not, length, take}
use Rattle.std.specs.Prelude.{filter}
use Rattle.prt_route.specs.declared.route.Route.{Route}
use Rattle.prt_diff.specs.Fence.{names_route, is_kernels}
use Rattle.prt_diff.proofs.outside.routes_outside.Given as goal

abbrev pub invariant-loop-route : goal.invariant-loop-route
invariant-loop-route l = record {
  bound : l.count ≤ l.route-index;
  counted : l.count ≡ length (filter (λ (route : Route). not (is_kernels route) && not (names_route l.fence route)) (take l.route-index l.routes));
}
