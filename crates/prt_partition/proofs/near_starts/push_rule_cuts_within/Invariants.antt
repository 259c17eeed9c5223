use Rattle.std.proofs.Common.{◌≡◌, ◌++◌, drop}
use Rattle.prt_partition.specs.Differing.{rule_cuts_within}
use Rattle.prt_partition.proofs.near_starts.push_rule_cuts_within.Given as goal

abbrev pub invariant-loop-rule : goal.invariant-loop-rule
invariant-loop-rule l = l.cuts.items ++ rule_cuts_within l.blocks (drop l.rule-index l.rules) ≡ l.fn.cuts.items ++ rule_cuts_within l.blocks l.rules
