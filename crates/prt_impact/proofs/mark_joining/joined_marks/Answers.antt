use Rattle.prt_impact.proofs.MarkGroups.{all_taken, front_then}
use Rattle.prt_impact.proofs.mark_joining.joined_marks.Goals as goal

pub loop-first-preserved : goal.loop-first-preserved
loop-first-preserved c =
    front_then c.args.groups.now c.loop-first.joined.items c.loop-first.rest.now c.push_front.new.joined.items _ c.in_ok-count.count c.split_at.ensures.back c.in_ok-count.ensures.joined c.loop-first.invariant

pub returns : goal.returns
returns c = all_taken c.args.groups.now c.loop-first.joined.items c.loop-first.rest.now c.in_default.ensures.cases c.loop-first.invariant
