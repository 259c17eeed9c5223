use Rattle.std.proofs.Common.{◌≡◌, ◌++◌, drop}
use Rattle.prt_partition.specs.Steps.{differences_of}
use Rattle.prt_partition.proofs.differences.differences_of.Given as goal

abbrev pub invariant-loop-i : goal.invariant-loop-i
invariant-loop-i l = l.differences.items ++ differences_of (drop l.i l.contrasts) ≡ differences_of l.contrasts
