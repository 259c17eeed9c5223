use Rattle.prt_lines.proofs.Lines.{goes_on}
use Rattle.prt_lines.proofs.chunk.advance_all.Goals as goal

pub loop-line-preserved : goal.loop-line-preserved
loop-line-preserved c = goes_on _ _ _ _ _ _ _ c.loop-line.invariant c.in-Some.ensures c.in_default-advance.ensures.allowed c.in_default-advance.ensures.value
