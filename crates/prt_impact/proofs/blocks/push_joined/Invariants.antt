use Rattle.std.proofs.Common.{[], ◌∷◌, ◌++◌, length}
use Rattle.prt_impact.specs.MarkSets.{AreSameMarks}
use Rattle.prt_impact.proofs.blocks.push_joined.Given as goal

abbrev pub invariant-loop-joined : goal.invariant-loop-joined
invariant-loop-joined l = AreSameMarks (l.fn.blocks.items ++ l.fn.block ∷ []) (l.blocks.items ++ l.whole ∷ [])

abbrev pub decreases-loop-joined : goal.decreases-loop-joined
decreases-loop-joined l = length l.blocks.items
