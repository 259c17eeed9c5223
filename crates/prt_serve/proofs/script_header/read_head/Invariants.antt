use Rattle.prt_serve.proofs.Heads.{HeadSoFar}
use Rattle.prt_serve.proofs.script_header.read_head.Given as goal

abbrev pub invariant-loop-count : goal.invariant-loop-count
invariant-loop-count g l = HeadSoFar (g.R.Read.remaining l.initial.reader) (g.R.Read.remaining l.reader) l.head.items l._count
