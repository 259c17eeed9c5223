use Rattle.std.proofs.Common.{subst}
use Rattle.std.proofs.lemmas.List.{take_all}
use Rattle.prt_impact.specs.Replacing.{Replaces}
use Rattle.prt_impact.proofs.Replaced.{one_more}
use Rattle.prt_impact.proofs.joining.joined_sources.Goals as goal

pub loop-group-preserved : goal.loop-group-preserved
loop-group-preserved c = λ sameness before after.
    one_more sameness before after c.args.groups.now c.loop-group.group-index c.group-item.result c.loop-group.joined.items c.push_joined.new.groups.items c.loop-group-test.true c.group-item.is
    (c.in_ok-push_joined.ensures sameness before after) (c.loop-group.invariant sameness before after)

pub returns : goal.returns
returns c = λ sameness before after.
    subst (λ gs. Replaces sameness before after gs c.loop-group.joined.items) (take_all c.loop-group.group-index c.args.groups.now c.loop-group-test.false) (c.loop-group.invariant sameness before after)
