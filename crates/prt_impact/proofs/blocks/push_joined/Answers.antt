use Rattle.std.proofs.Common.{[], ◌∷◌, ◌++◌, ◌∙◌, ap, sym, take}
use Rattle.prt_impact.proofs.BlockLists.{shortened_same, then_same}
use Rattle.prt_impact.proofs.blocks.push_joined.Goals as goal

pub loop-joined-preserved : goal.loop-joined-preserved
loop-joined-preserved c =
    let items = c.loop-joined.blocks.items in
    let short = c.truncate.new.self.items in
    let whole = c.loop-joined.whole in
    let joined = c.in-Some.joined in
    then_same (c.args.blocks.now.items ++ c.args.block.now ∷ []) (items ++ whole ∷ []) (short ++ joined ∷ []) c.loop-joined.invariant
    (shortened_same c.deref.result.now items short c.len.result whole joined c.deref.ensures.value (c.len.ensures ∙ sym c.deref.ensures.len) (c.truncate.ensures.items ∙ ap (λ k. take k items) c.saturating_sub.ensures) c.in-Some.ensures.same)
