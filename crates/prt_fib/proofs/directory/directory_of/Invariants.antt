use Rattle.std.proofs.Common.{◌≡◌, ℕ, ◌+◌, ◌*◌, ◌<◌, ◌≤◌, length, slice_index}
use Rattle.prt_fib.specs.Places.{IsPlace, addresses_of}
use Rattle.prt_fib.proofs.directory.directory_of.Given as goal

abbrev pub invariant-loop-block : goal.invariant-loop-block
invariant-loop-block l = record {
  within : l.place < length l.starts;
  from : slice_index l.starts l.place ≤ l.base + l.block * addresses_of l.size;
  count : length l.directory.items ≡ l.block;
  places : (k : ℕ) → k < l.block → IsPlace l.starts (l.base + k * addresses_of l.size) (slice_index l.directory.items k);
}
