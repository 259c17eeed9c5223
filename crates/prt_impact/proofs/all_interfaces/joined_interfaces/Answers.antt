use Rattle.std.proofs.Common.{subst}
use Rattle.std.proofs.lemmas.List.{take_all}
use Rattle.prt_impact.specs.Replacing.{Replaces}
use Rattle.prt_impact.proofs.Replaced.{one_more}
use Rattle.prt_impact.proofs.all_interfaces.joined_interfaces.Goals as goal

pub loop-group-preserved : goal.loop-group-preserved
loop-group-preserved c = λ sameness before after all.
    one_more sameness before after c.args.groups.now c.loop-group.group-index c.group-item.result c.loop-group.joined.items c.push_whole.new.groups.items c.loop-group-test.true c.group-item.is
    (c.in_ok-push_whole.ensures sameness before after all) (c.loop-group.invariant sameness before after all)

pub returns : goal.returns
returns c = λ sameness before after all.
    subst (λ gs. Replaces sameness before after gs c.loop-group.joined.items) (take_all c.loop-group.group-index c.args.groups.now c.loop-group-test.false) (c.loop-group.invariant sameness before after all)
