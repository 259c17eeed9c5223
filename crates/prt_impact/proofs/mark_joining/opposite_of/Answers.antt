use Rattle.std.proofs.Common.{subst}
use Rattle.std.specs.Prelude.{IfSome}
use Rattle.prt_impact.specs.MarkSets.{AreDivided, AreSameMarks}
use Rattle.prt_impact.proofs.BlockLists.{opposite, opposite_joined}
use Rattle.prt_impact.proofs.mark_joining.opposite_of.Goals as goal

pub returns : goal.returns
returns c =
    let all = c.args.all.now in
    let blocks = c.args.blocks.now in
    let others = c.in-Some.others.items in
    let joined = c.in_ok-others-2.others.items in
    opposite_joined blocks others joined
    (opposite all blocks others c.requires (subst (λ found. IfSome found (λ others. AreDivided all blocks others.items)) c.in-Some.is c.in_ok-others.ensures))
    (subst (λ bs. AreSameMarks bs joined) c.deref.ensures.value c.in_ok-others-2.ensures)
