use Rattle.std.proofs.Common.{ap, arith, ◌∙◌}
use Rattle.std.proofs.lemmas.List.{take_all}
use Rattle.prt_diff.specs.Plan.{bring_all, brought, plan_of}
use Rattle.prt_diff.proofs.Turns.{bring_more}
use Rattle.prt_diff.proofs.plan.Changes.bring_all.Goals as goal

pub loop-rule-preserved : goal.loop-rule-preserved
loop-rule-preserved c =
    c.in_ok-bring.ensures ∙ ap (brought c.rule-item.result) c.loop-rule.invariant
    ∙ bring_more c.args.rules.now c.loop-rule.rule-index c.rule-item.result (plan_of c.args.self.now) c.loop-rule-test.true c.rule-item.is

pub returns : goal.returns
returns c = c.loop-rule.invariant ∙ ap (λ rules. bring_all rules (plan_of c.args.self.now)) (take_all c.loop-rule.rule-index c.args.rules.now (omega (arith, c.loop-rule-test.false)))
