use Rattle.std.proofs.Common.{◌∙◌}
use Rattle.prt_json.specs.RuleJson.{rule_json}
use Rattle.prt_json.proofs.Tokens.{more_values}
use Rattle.prt_json.proofs.arrays.push_each_rule.Goals as goal

pub loop-rule-preserved : goal.loop-rule-preserved
loop-rule-preserved c = record {
  tokens = more_values rule_json c.args.rules.now c.loop-rule.rule-index c.rule-item.result _ _ _ c.loop-rule-test.true c.rule-item.is c.loop-rule.invariant.tokens (rw c.rule_fields.ensures at c.in_ok-push_object.ensures.ok);
  before = c.in_ok-push_object.ensures.before ∙ c.loop-rule.invariant.before;
}
