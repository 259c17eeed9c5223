use Rattle.std.proofs.Common.{◌-◌, ◌<◌, ◌≤◌, length, slice_index}
use Rattle.prt_fib.proofs.directory.place_from.Given as goal

abbrev pub invariant-loop-place : goal.invariant-loop-place
invariant-loop-place l = record {
  within : l.place < length l.starts;
  from : slice_index l.starts l.place ≤ l.n;
}

abbrev pub decreases-loop-place : goal.decreases-loop-place
decreases-loop-place l = length l.starts - l.place
