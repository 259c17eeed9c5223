use Rattle.std.proofs.Common.{length}
use Rattle.std.specs.Arc.{arc_value}
use Rattle.prt_lines.specs.Chunk.{AreExecuted}
use Rattle.prt_lines.proofs.chunk.advance_all.Given as goal

abbrev pub invariant-loop-line : goal.invariant-loop-line
invariant-loop-line l = AreExecuted (arc_value l.initial.owner) l.text l.rest (arc_value l.owner)

abbrev pub decreases-loop-line : goal.decreases-loop-line
decreases-loop-line l = length l.rest
