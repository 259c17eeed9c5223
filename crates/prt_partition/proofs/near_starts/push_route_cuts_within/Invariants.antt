use Rattle.std.proofs.Common.{◌≡◌, ◌++◌, drop}
use Rattle.prt_partition.specs.Differing.{route_cuts_within}
use Rattle.prt_partition.proofs.near_starts.push_route_cuts_within.Given as goal

abbrev pub invariant-loop-route : goal.invariant-loop-route
invariant-loop-route l = l.cuts.items ++ route_cuts_within l.blocks (drop l.route-index l.routes) ≡ l.fn.cuts.items ++ route_cuts_within l.blocks l.routes
