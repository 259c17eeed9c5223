use Rattle.std.proofs.Common.{◌≡◌, ◌++◌, map, take}
use Rattle.prt_diff.specs.Rules.{add_rule}
use Rattle.prt_diff.proofs.apply.rules.push_additions.Given as goal

abbrev pub invariant-loop-rule : goal.invariant-loop-rule
invariant-loop-rule l = l.commands.items ≡ l.fn.commands.items ++ map add_rule (take l.rule-index l.rules)
