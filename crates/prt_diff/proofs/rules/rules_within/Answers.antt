use Rattle.std.proofs.Common.{ap, arith, subst, sym, ◌∙◌}
use Rattle.std.specs.Prelude.{filter}
use Rattle.std.proofs.lemmas.List.{take_all}
use Rattle.prt_addr.proofs.Orders.{rising_filtered}
use Rattle.prt_rule.specs.Rule.{is_before}
use Rattle.prt_rule.specs.Sound.{IsInOrder}
use Rattle.prt_diff.specs.Fence.{is_rule_within}
use Rattle.prt_diff.proofs.rules.rules_within.Goals as goal

pub returns-clause-order : goal.returns-clause-order
returns-clause-order c =
    subst IsInOrder
    (sym (c.loop-rule.invariant ∙ ap (filter (is_rule_within c.args.fence.now)) (take_all c.loop-rule.rule-index c.args.rules.now (omega (arith, c.loop-rule-test.false)))))
    (rising_filtered is_before (is_rule_within c.args.fence.now) c.args.rules.now c.requires)
