use Rattle.std.proofs.Common.{◌≡◌, ◌++◌, map, take}
use Rattle.prt_diff.specs.Replacing.{plain_rules}
use Rattle.prt_diff.specs.Rules.{add_rule}
use Rattle.prt_diff.proofs.replacing.push_rules.Given as goal

abbrev pub invariant-loop-rule : goal.invariant-loop-rule
invariant-loop-rule l = l.commands.items ≡ l.fn.commands.items ++ map add_rule (plain_rules (take l.rule-index l.rules))
