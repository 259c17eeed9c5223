use Rattle.std.proofs.Common.{◌≡◌, take}
use Rattle.prt_diff.specs.Plan.{bring_all, plan_of}
use Rattle.prt_diff.proofs.plan.Changes.bring_all.Given as goal

abbrev pub invariant-loop-rule : goal.invariant-loop-rule
invariant-loop-rule l = plan_of l.self ≡ bring_all (take l.rule-index l.rules) (plan_of l.fn.self)
