use Rattle.std.proofs.Common.{◌-◌}
use Rattle.prt_published.proofs.Numbers.{accepted_first}
use Rattle.prt_published.proofs.told.Told.without_last.Goals as goal

pub returns-clause-accepted : goal.returns-clause-accepted
returns-clause-accepted c =
    accepted_first c.again.result.base (c.self.inside.count - c.args.count) c.again.result.list c.again.ensures.accepted
