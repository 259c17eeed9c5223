use Rattle.std.proofs.Common.{take}
use Rattle.prt_impact.specs.MarkSets.{AreSameMarks}
use Rattle.prt_impact.proofs.blocks.joined_blocks.Given as goal

abbrev pub invariant-loop-block : goal.invariant-loop-block
invariant-loop-block l = AreSameMarks (take l.block-index l.blocks) l.joined.items
