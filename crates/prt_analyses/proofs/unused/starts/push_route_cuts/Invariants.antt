use Rattle.std.proofs.Common.{◌≡◌, ◌++◌, drop}
use Rattle.prt_partition.specs.Cuts.{route_cuts}
use Rattle.prt_analyses.proofs.unused.starts.push_route_cuts.Given as goal

abbrev pub invariant-loop-route : goal.invariant-loop-route
invariant-loop-route l = l.cuts.items ++ route_cuts (drop l.route-index l.routes) ≡ l.fn.cuts.items ++ route_cuts l.routes
