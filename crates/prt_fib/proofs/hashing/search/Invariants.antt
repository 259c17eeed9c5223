use Rattle.std.proofs.Common.{◌≡◌, ◌≢◌, ◌-◌, ◌<◌, ◌≤◌, ℕ, length, Some}
use Rattle.std.specs.Prelude.{option_map}
use Rattle.std.specs.List.{slice_get}
use Rattle.prt_fib.specs.Hashes.{hash_of}
use Rattle.prt_fib.proofs.hashing.search.Given as goal

abbrev pub invariant-loop-last : goal.invariant-loop-last
invariant-loop-last l = record {
  within : l.last ≤ length l.outcomes;
  has : 0 < l.last → option_map hash_of (slice_get l.outcomes (l.last - 1)) ≡ Some (hash_of l.outcome);
  none : (k : ℕ) → l.last ≤ k → k < length l.outcomes → slice_get l.outcomes k ≢ Some l.outcome;
}

abbrev pub decreases-loop-last : goal.decreases-loop-last
decreases-loop-last l = l.last
