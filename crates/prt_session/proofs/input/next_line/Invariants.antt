use Rattle.prt_session.proofs.Lines.{LineSoFar}
use Rattle.prt_session.proofs.input.next_line.Given as goal

abbrev pub invariant-loop-length : goal.invariant-loop-length
invariant-loop-length g l = LineSoFar (g.R.Read.remaining l.initial.reader) (g.R.Read.remaining l.reader) l.line.items l.length
