use Rattle.std.proofs.Common.{length}
use Rattle.prt_impact.proofs.BlockLists.{ArePieces}
use Rattle.prt_impact.proofs.mark_joining.pieces_of.Given as goal

abbrev pub invariant-loop-rest : goal.invariant-loop-rest
invariant-loop-rest l = ArePieces l.blocks l.sets.items l.rest

abbrev pub decreases-loop-rest : goal.decreases-loop-rest
decreases-loop-rest l = length l.rest
