use Rattle.std.proofs.Common.{length}
use Rattle.prt_analyses.proofs.Checks.{SoFar}
use Rattle.prt_analyses.proofs.claims.checking.check_claims.Given as goal

abbrev pub invariant-loop-line : goal.invariant-loop-line
invariant-loop-line l = SoFar l.version l.checked l.number l.text l.rest

abbrev pub decreases-loop-line : goal.decreases-loop-line
decreases-loop-line l = length l.rest
