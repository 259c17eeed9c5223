use Rattle.std.proofs.Common.{[], ◌∷◌, ◌++◌, ◌∙◌, ap, subst, sym, take}
use Rattle.std.proofs.lemmas.Result.{on_ok_weaker}
use Rattle.prt_impact.specs.Replacing.{AlwaysReplaces}
use Rattle.prt_impact.proofs.Replaced.{shortened, then_always}
use Rattle.prt_impact.proofs.joining.push_joined.Goals as goal

pub loop-joined-preserved : goal.loop-joined-preserved
loop-joined-preserved c =
    let items = c.loop-joined.groups.items in
    let short = c.truncate.new.self.items in
    let whole = c.loop-joined.whole in
    let joined = c.in-Some.joined in
    then_always (c.args.groups.now.items ++ c.args.group.now ∷ []) (items ++ whole ∷ []) (short ++ joined ∷ []) c.loop-joined.invariant
    (shortened c.deref.result.now items short c.len.result whole joined c.deref.ensures.value (c.len.ensures ∙ sym c.deref.ensures.len) (c.truncate.ensures.items ∙ ap (λ k. take k items) c.saturating_sub.ensures) c.in-Some.ensures.replaces)

pub returns : goal.returns
returns c =
    on_ok_weaker c.push_group.result
    (λ pushed. subst (AlwaysReplaces (c.args.groups.now.items ++ c.args.group.now ∷ [])) (sym pushed) c.loop-joined.invariant)
    c.push_group.ensures
