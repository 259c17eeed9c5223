use Rattle.std.proofs.Common.{[], ◌∷◌, ◌∙◌, ap, subst, sym}
use Rattle.std.specs.Prelude.{IfSome}
use Rattle.prt_impact.specs.MarkSets.{AreOpposite, AreSets, except}
use Rattle.prt_impact.proofs.BlockLists.{inverted_sets}
use Rattle.prt_impact.proofs.mark_joining.inverted_set.Goals as goal

pub returns : goal.returns
returns c =
    let blocks = c.args.blocks.now in
    let others = c.in-Some.others.items in
    subst (λ set. AreSets blocks (set ∷ [])) (sym (c.except.ensures ∙ ap except c.deref.ensures.value))
    (inverted_sets blocks others (subst (λ found. IfSome found (λ others. AreOpposite blocks others.items)) c.in-Some.is c.in_ok-others.ensures))
