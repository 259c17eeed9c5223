use Rattle.std.proofs.Common.{◌≡◌, ◌++◌, map, take}
use Rattle.prt_diff.specs.Apply.Rules.{delete_first}
use Rattle.prt_diff.proofs.apply.rules.push_deletions.Given as goal

abbrev pub invariant-loop-rule : goal.invariant-loop-rule
invariant-loop-rule l = l.commands.items ≡ l.fn.commands.items ++ map delete_first (take l.rule-index l.rules)
