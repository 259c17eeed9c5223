use Rattle.std.proofs.Common.{◌≡◌, ℕ, ◌<◌, None, slice_index}
use Rattle.prt_partition.specs.Comparison.{after_of, before_of}
use Rattle.prt_partition.specs.Cuts.{to}
use Rattle.prt_partition.specs.Touching.{transition_of}
use Rattle.prt_partition.proofs.equivalence.first_change.Given as goal

abbrev pub invariant-loop-start : goal.invariant-loop-start
invariant-loop-start l = (k : ℕ) → k < l.start-index → transition_of l.sameness (before_of l.comparison) (after_of l.comparison) (to l.packet (slice_index l.starts k)) ≡ None
