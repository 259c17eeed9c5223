use Rattle.std.proofs.Common.{◌-◌, ◌+◌, ◌<◌, ◌≤◌, length, slice_index}
use Rattle.prt_fib.proofs.directory.place_between.Given as goal

abbrev pub invariant-loop-low : goal.invariant-loop-low
invariant-loop-low l = record {
  low : l.low < length l.starts;
  high : l.high < length l.starts;
  from : slice_index l.starts l.low ≤ l.addr;
  to : l.high + 1 < length l.starts → l.addr < slice_index l.starts (l.high + 1);
}

abbrev pub decreases-loop-low : goal.decreases-loop-low
decreases-loop-low l = l.high - l.low
