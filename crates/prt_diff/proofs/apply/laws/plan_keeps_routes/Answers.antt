use Rattle.prt_diff.proofs.Applying.Brings.{plan_between}
use Rattle.prt_diff.proofs.apply.laws.plan_keeps_routes.Goals as goal

pub returns : goal.returns
returns c = plan_between
