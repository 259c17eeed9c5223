use Rattle.prt_serve.proofs.FeedTexts.{tells_mark_cut, tells_marked, tells_quiet}
use Rattle.prt_serve.proofs.feed.tell_on.Goals as goal
use Rattle.std.proofs.Common.{true, false}

pub returns-then-not-write_together : goal.returns-then-not-write_together
returns-then-not-write_together g c =
    tells_mark_cut c.args.follower.now c.loop.follower c.next_within.new.self c.in-Command.command c.write_together.result _ _ _ c.in-Command.ensures c.if-not-write_together.true c.loop.invariant c.write_together.ensures

pub returns-then-not-write_change : goal.returns-then-not-write_change
returns-then-not-write_change g c =
    tells_marked c.args.follower.now c.loop.follower c.next_within.new.self c.in-Command.command c.number.result c.write_together.result c.write_change.result false _ _ _ _ c.in-Command.ensures c.number.ensures.value c.if-not-write_together.false
    c.if-not-write_change.true c.loop.invariant c.write_together.ensures c.write_change.ensures

pub loop-preserved-else-not-write_change : goal.loop-preserved-else-not-write_change
loop-preserved-else-not-write_change g c =
    tells_marked c.args.follower.now c.loop.follower c.next_within.new.self c.in-Command.command c.number.result c.write_together.result c.write_change.result true _ _ _ _ c.in-Command.ensures c.number.ensures.value c.if-not-write_together.false
    c.if-not-write_change.false c.loop.invariant c.write_together.ensures c.write_change.ensures

pub returns-then-not-write_quiet : goal.returns-then-not-write_quiet
returns-then-not-write_quiet g c =
    tells_quiet c.args.follower.now c.loop.follower c.next_within.new.self c.write_quiet.result false _ _ _ c.in-Quiet.ensures c.if-not-write_quiet.true c.loop.invariant c.write_quiet.ensures

pub loop-preserved : goal.loop-preserved
loop-preserved g c =
    tells_quiet c.args.follower.now c.loop.follower c.next_within.new.self c.write_quiet.result true _ _ _ c.in-Quiet.ensures c.if-not-write_quiet.false c.loop.invariant c.write_quiet.ensures
