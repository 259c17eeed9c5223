use Rattle.std.proofs.Common.{◌≤◌, length, take}
use Rattle.prt_partition.specs.Boxes.{AreNames}
use Rattle.prt_partition.proofs.interfaces.names_of.Given as goal

abbrev pub invariant-loop-rule : goal.invariant-loop-rule
invariant-loop-rule l = record {
  are : AreNames (take l.rule-index l.rules) l.names.items;
  few : length l.names.items ≤ l.rule-index;
}
