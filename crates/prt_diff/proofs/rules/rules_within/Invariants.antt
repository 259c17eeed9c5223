use Rattle.std.proofs.Common.{◌≡◌, take}
use Rattle.std.specs.Prelude.{filter}
use Rattle.prt_diff.specs.Fence.{is_rule_within}
use Rattle.prt_diff.proofs.rules.rules_within.Given as goal

abbrev pub invariant-loop-rule : goal.invariant-loop-rule
invariant-loop-rule l = l.within.items ≡ filter (is_rule_within l.fence) (take l.rule-index l.rules)
