use Rattle.prt_diff.proofs.Applying.Room.{accepted_leaves}
use Rattle.prt_diff.proofs.apply.laws.accepted_plan_brings.Goals as goal

pub returns : goal.returns
returns c = accepted_leaves
