use Rattle.prt_impact.proofs.MarkGroups.{front_more, long_more}
use Rattle.prt_impact.proofs.mark_joining.front_blocks.Goals as goal

pub loop-group-preserved : goal.loop-group-preserved
loop-group-preserved c =
    let blocks = c.loop-group.blocks.items in
    let new = c.extend_from_slice.new.self.items in
    let block = c.in-Some.block in
    let i = c.loop-group.group-index in
    record {
      long = long_more blocks new block i c.in_ok-extend_from_slice.ensures.items c.loop-group.invariant.long;
      same = front_more c.args.groups.now c.args.like.now i c.group-item.result block blocks new c.loop-group-test.true c.group-item.is c.in-Some.ensures c.in_ok-extend_from_slice.ensures.items c.loop-group.invariant.same;
    }
