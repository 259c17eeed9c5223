use Rattle.std.proofs.Common.{arith, ◌-◌}
use Rattle.prt_service.proofs.Receipts.{one_ends}
use Rattle.prt_service.proofs.followers.Followers.tell_all.Goals as goal

pub new-requires-clause-ends : goal.new-requires-clause-ends
new-requires-clause-ends g c =
    let last = c.args.last.now.list in
    one_ends last c.args.commands.now c.loop-command.command-index (c.loop-command.later - 1) c.command-item.result c.requires.ends (omega (arith, c.loop-command.invariant, c.loop-command-test.true)) c.command-item.is
