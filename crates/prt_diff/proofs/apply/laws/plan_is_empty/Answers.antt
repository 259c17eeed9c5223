use Rattle.prt_diff.proofs.Applying.Alike.{nothing_planned}
use Rattle.prt_diff.proofs.apply.laws.plan_is_empty.Goals as goal

pub returns : goal.returns
returns c = nothing_planned
