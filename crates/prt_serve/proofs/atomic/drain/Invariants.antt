use Rattle.prt_serve.specs.ScriptHeader.{HasDrained}
use Rattle.prt_serve.proofs.atomic.drain.Given as goal

abbrev pub invariant-loop : goal.invariant-loop
invariant-loop g l = HasDrained (g.R.Read.remaining l.initial.reader) (g.R.Read.remaining l.reader)
