use Rattle.std.proofs.Common.{◌≡◌, ◌++◌, map, take}
use Rattle.prt_json.specs.RuleJson.{rule_json}
use Rattle.prt_json.specs.Steps.{values_tokens}
use Rattle.prt_json.proofs.arrays.push_each_rule.Given as goal

abbrev pub invariant-loop-rule : goal.invariant-loop-rule
invariant-loop-rule l = record { tokens : l.out.tokens ≡ l.fn.out.tokens ++ values_tokens (map rule_json (take l.rule-index l.rules)); before : l.out.before ≡ l.fn.out.before }
