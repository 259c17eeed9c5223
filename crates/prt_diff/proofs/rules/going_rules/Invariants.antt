use Rattle.std.proofs.Common.{◌≡◌, not, ◌&&◌, take}
use Rattle.std.specs.Prelude.{filter}
use Rattle.prt_rule.specs.declared.rule.Rule.{Rule}
use Rattle.prt_version.specs.Change.{has_rule}
use Rattle.prt_diff.specs.Fence.{is_rule_within}
use Rattle.prt_diff.proofs.rules.going_rules.Given as goal

abbrev pub invariant-loop-rule : goal.invariant-loop-rule
invariant-loop-rule l = l.rules.items ≡ filter (λ (rule : Rule). is_rule_within l.fence rule && not (has_rule rule l.wanted)) (take l.rule-index l.found)
