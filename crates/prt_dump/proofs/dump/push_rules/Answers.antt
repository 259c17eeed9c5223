use Rattle.prt_dump.specs.Dump.{add_rule}
use Rattle.prt_dump.proofs.Texts.{listed_command}
use Rattle.prt_dump.proofs.dump.push_rules.Goals as goal

pub loop-rule-preserved : goal.loop-rule-preserved
loop-rule-preserved c = listed_command add_rule c.args.rules.now c.loop-rule.rule-index c.rule-item.result c.add_rule.result _ _ _ c.loop-rule-test.true c.rule-item.is c.add_rule.ensures c.loop-rule.invariant c.in_ok-push_command.ensures
