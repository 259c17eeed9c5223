use Rattle.std.proofs.Common.{subst}
use Rattle.std.proofs.lemmas.List.{take_all}
use Rattle.prt_impact.specs.MarkSets.{AreSameMarks}
use Rattle.prt_impact.specs.Padded.{no_mark}
use Rattle.prt_impact.proofs.BlockLists.{more_same, sorted_same}
use Rattle.prt_impact.proofs.blocks.joined_blocks.Goals as goal

pub loop-block-preserved : goal.loop-block-preserved
loop-block-preserved c =
    more_same c.args.blocks.now c.loop-block.block-index no_mark c.loop-block.joined.items c.push_joined.new.blocks.items c.loop-block-test.true c.in_ok-push_joined.ensures c.loop-block.invariant

pub returns : goal.returns
returns c =
    let joined = c.loop-block.joined.items in
    sorted_same c.args.blocks.now joined c.sort_by.new.self.items
    (subst (λ bs. AreSameMarks bs joined) (take_all c.loop-block.block-index c.args.blocks.now c.loop-block-test.false) c.loop-block.invariant) c.sort_by.ensures.permutation
