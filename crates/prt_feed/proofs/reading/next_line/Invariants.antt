use Rattle.prt_feed.proofs.Taking.{LineSoFar}
use Rattle.prt_feed.proofs.reading.next_line.Given as goal

abbrev pub invariant-loop-count : goal.invariant-loop-count
invariant-loop-count g l = LineSoFar (g.R.Read.remaining l.initial.reader) (g.R.Read.remaining l.reader) l.line.items l._count
