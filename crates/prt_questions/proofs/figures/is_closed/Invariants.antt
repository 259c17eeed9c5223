use Rattle.std.proofs.Common.{◌≡◌, length}
use Rattle.prt_questions.specs.StatusText.{is_closed}
use Rattle.prt_questions.proofs.figures.is_closed.Given as goal

abbrev pub invariant-loop-line : goal.invariant-loop-line
invariant-loop-line l = is_closed l.rest ≡ is_closed l.said

abbrev pub decreases-loop-line : goal.decreases-loop-line
decreases-loop-line l = length l.rest
