use Rattle.prt_feed.proofs.Taking.{TablesSoFar}
use Rattle.prt_feed.proofs.reading.read_tables.Given as goal

-- the lines so far were executed
abbrev pub invariant-loop-count : goal.invariant-loop-count
invariant-loop-count g l = TablesSoFar (g.R.Read.remaining l.initial.reader) (g.R.Read.remaining l.reader) l.tables l._count
