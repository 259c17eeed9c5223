use Rattle.std.proofs.Common.{ℕ, ◌*◌, ◌<◌}
use Rattle.std.specs.List.{Contains}
use Rattle.prt_fib.proofs.dividing.push_bases.Given as goal

abbrev pub invariant-loop-octet : goal.invariant-loop-octet
invariant-loop-octet l = record {
  keeps : (n : ℕ) → Contains l.initial.starts.items n → Contains l.starts.items n;
  bases : (k : ℕ) → k < l.octet → Contains l.starts.items (k * 16777216);
}
