use Rattle.std.proofs.Common.{◌≡◌, ◌++◌, drop}
use Rattle.prt_partition.specs.Cuts.{rule_cuts}
use Rattle.prt_analyses.proofs.unused.starts.push_rule_cuts.Given as goal

abbrev pub invariant-loop-rule : goal.invariant-loop-rule
invariant-loop-rule l = l.cuts.items ++ rule_cuts (drop l.rule-index l.rules) ≡ l.fn.cuts.items ++ rule_cuts l.rules
