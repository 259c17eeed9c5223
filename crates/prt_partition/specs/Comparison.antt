-- Two versions that are compared for packets that differ in their destinations alone.
use Rattle.prt_rule.specs.declared.packet.Packet.{Packet}
use Rattle.prt_version.specs.State.{State}
use Rattle.prt_partition.specs.ClassRules.{AreOfClass, state_of}
use Rattle.prt_partition.specs.Touching.{IsQuiet}
use Rattle.prt_partition.specs.declared.comparison.Comparison.{Comparison}

abbrev pub before_of : Comparison → State
before_of comparison = state_of comparison.before

abbrev pub after_of : Comparison → State
after_of comparison = state_of comparison.after

-- it has the rules of the packet's class, and what its difference doesn't touch goes the same way by both versions
pub record CanCompare (packet : Packet) (comparison : Comparison) : Type 0 where
  pub before : AreOfClass packet comparison.before
  pub after : AreOfClass packet comparison.after
  pub quiet : IsQuiet (before_of comparison) (after_of comparison) comparison.touching packet
