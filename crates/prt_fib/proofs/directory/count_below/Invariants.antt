use Rattle.std.proofs.Common.{ℕ, ◌-◌, ◌<◌, ◌≤◌, length, slice_index}
use Rattle.prt_fib.proofs.directory.count_below.Given as goal

abbrev pub invariant-loop-low : goal.invariant-loop-low
invariant-loop-low l = record {
  order : l.low ≤ l.high;
  within : l.high ≤ length l.starts;
  below : (k : ℕ) → k < l.low → slice_index l.starts k < l.n;
  above : (k : ℕ) → l.high ≤ k → k < length l.starts → l.n ≤ slice_index l.starts k;
}

abbrev pub decreases-loop-low : goal.decreases-loop-low
decreases-loop-low l = l.high - l.low
