use Rattle.std.proofs.Common.{◌≡◌, ◌≤◌, not, length, take}
use Rattle.std.specs.Prelude.{filter}
use Rattle.prt_rule.specs.declared.rule.Rule.{Rule}
use Rattle.prt_diff.specs.Fence.{names_rule}
use Rattle.prt_diff.proofs.outside.rules_outside.Given as goal

abbrev pub invariant-loop-rule : goal.invariant-loop-rule
invariant-loop-rule l = record {
  bound : l.count ≤ l.rule-index;
  counted : l.count ≡ length (filter (λ (rule : Rule). not (names_rule l.fence rule)) (take l.rule-index l.rules));
}
