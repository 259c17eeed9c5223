use Rattle.std.proofs.Common.{length}
use Rattle.prt_import.proofs.Executing.{SoFar}
use Rattle.prt_import.proofs.accepted.accept_over.Given as goal

abbrev pub invariant-loop-line : goal.invariant-loop-line
invariant-loop-line l = SoFar l.version l.made l.number l.script l.rest

abbrev pub decreases-loop-line : goal.decreases-loop-line
decreases-loop-line l = length l.rest
