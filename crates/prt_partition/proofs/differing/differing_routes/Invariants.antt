use Rattle.std.proofs.Common.{◌≤◌, ◌+◌, ◌-◌, length, take}
use Rattle.prt_partition.proofs.Merging.{Hold}
use Rattle.prt_partition.proofs.WhatDiffers.{itself, route_test}
use Rattle.prt_partition.proofs.differing.differing_routes.Given as goal

abbrev pub invariant-loop-i : goal.invariant-loop-i
invariant-loop-i l = record {
  within : l.i ≤ length l.before;
  among : l.j ≤ length l.after;
  hold : Hold route_test itself (take l.i l.before) (take l.j l.after) l.routes.items;
}

abbrev pub decreases-loop-i : goal.decreases-loop-i
decreases-loop-i l = (length l.before - l.i) + (length l.after - l.j)
