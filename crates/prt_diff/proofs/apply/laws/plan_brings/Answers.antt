use Rattle.prt_diff.proofs.Applying.Brings.{plan_accepted, plan_leaves}
use Rattle.prt_diff.proofs.apply.laws.plan_brings.Goals as goal

pub returns : goal.returns
returns c = record {
  accepted = plan_accepted;
  brought = plan_leaves;
}
