use Rattle.std.proofs.Common.{take}
use Rattle.prt_impact.proofs.BlockLists.{IsWalked}
use Rattle.prt_impact.proofs.blocks.others_of.Given as goal

abbrev pub invariant-loop-block : goal.invariant-loop-block
invariant-loop-block l = IsWalked (take l.block-index l.all) l.rest l.blocks l.others.items
