use Rattle.std.proofs.Common.{◌≡◌, ◌++◌, drop}
use Rattle.std.specs.Prelude.{map}
use Rattle.prt_partition.specs.Differing.{reach_of}
use Rattle.prt_partition.proofs.reach.push_reaches.Given as goal

abbrev pub invariant-loop-rule : goal.invariant-loop-rule
invariant-loop-rule l = l.blocks.items ++ map reach_of (drop l.rule-index l.rules) ≡ l.fn.blocks.items ++ map reach_of l.rules
