use Rattle.std.proofs.Common.{[], ◌∷◌, ◌++◌, ◌-◌, length, take}
use Rattle.prt_impact.specs.MarkSets.{AreSameMarks}
use Rattle.prt_impact.proofs.BlockLists.{last_same}
use Rattle.prt_impact.proofs.Neighbours.{some_weaker}
use Rattle.prt_impact.proofs.blocks.join_last.Goals as goal

pub returns-clause-same : goal.returns-clause-same
returns-clause-same c =
    let blocks = c.args.blocks.now in
    let block = c.args.block.now in
    some_weaker (λ joined. AreSameMarks (c.in-Some.last.now ∷ block ∷ []) (joined ∷ [])) (λ joined. AreSameMarks (blocks ++ block ∷ []) (take (length blocks - 1) blocks ++ joined ∷ []))
    (λ joined same. last_same blocks c.in-Some.field-0-1.now c.in-Some.last.now block joined c.in-Some.ensures.cases same) c.join.result c.join.ensures
