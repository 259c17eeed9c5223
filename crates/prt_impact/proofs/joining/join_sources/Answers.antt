use Rattle.std.proofs.Common.{[], ◌∷◌, ◌∙◌, subst, sym}
use Rattle.std.proofs.lemmas.Bool.{eqb-true}
use Rattle.prt_impact.specs.Replacing.{AlwaysReplaces}
use Rattle.prt_impact.proofs.Neighbours.{from_range, sources_joined}
use Rattle.prt_impact.proofs.joining.join_sources.Goals as goal

pub returns : goal.returns
returns c =
    let group = c.args.group.now in
    let next = c.args.next.now in
    subst (λ from. AlwaysReplaces (group ∷ next ∷ []) (from_range group from ∷ [])) (sym c.up_to.ensures)
    (sources_joined group next (eqb-true _ _ (sym c.follows.ensures ∙ c.if-not-follows.false)) (sym c.is_same_group.ensures ∙ c.if-not-is_same_group.false))
