use Rattle.std.proofs.Common.{◌≡◌, ◌++◌, drop}
use Rattle.prt_partition.specs.Classes.{numbers_of}
use Rattle.prt_partition.proofs.interfaces.push_numbers.Given as goal

abbrev pub invariant-loop-rule : goal.invariant-loop-rule
invariant-loop-rule l = l.numbers.items ++ numbers_of (drop l.rule-index l.rules) ≡ l.fn.numbers.items ++ numbers_of l.rules
