use Rattle.std.proofs.Common.{◌≡◌, ◌+◌, ◌++◌, length}
use Rattle.prt_rule.specs.Sound.{IsInOrder}
use Rattle.prt_diff.specs.Apply.Rules.{rule_changes}
use Rattle.prt_diff.proofs.apply.rules.push_rule_changes.Given as goal

abbrev pub invariant-loop-priority : goal.invariant-loop-priority
invariant-loop-priority l = record {
  found_order : IsInOrder l.found_rest;
  wanted_order : IsInOrder l.wanted_rest;
  held : l.commands.items ++ rule_changes l.found_rest l.wanted_rest ≡ l.fn.commands.items ++ rule_changes l.found l.wanted;
}

abbrev pub decreases-loop-priority : goal.decreases-loop-priority
decreases-loop-priority l = length l.found_rest + length l.wanted_rest
