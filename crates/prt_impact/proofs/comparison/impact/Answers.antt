use Rattle.std.proofs.Common.{◌∙◌, subst, sym}
use Rattle.prt_impact.specs.MarkSets.{HasEachOnce}
use Rattle.prt_impact.proofs.Replaced.{are_groups}
use Rattle.prt_impact.proofs.comparison.impact.Goals as goal

pub merged-requires : goal.merged-requires
merged-requires c = subst HasEachOnce (sym c.deref-6.ensures.value) c.in_ok-blocks.ensures.value

pub returns-clause-value : goal.returns-clause-value
returns-clause-value c =
    let sameness = c.args.sameness in
    let before = c.args.before.now in
    let after = c.args.after.now in
    are_groups sameness before after c.in_ok-groups.groups.items c.in_ok-merged.merged.items
    (c.in_ok-merged.ensures sameness before after (c.deref-5.ensures.value ∙ c.in_ok-rules.ensures.value)) c.in_ok-groups.ensures.value
