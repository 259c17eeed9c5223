-- The rules that can match one of the packets that differ in their destinations alone.
use Rattle.std.specs.Prelude.{◌≡◌, filter}
use Rattle.prt_rule.specs.declared.packet.Packet.{Packet}
use Rattle.prt_version.specs.State.{State}
use Rattle.prt_partition.specs.Touching.{can_match}
use Rattle.prt_partition.specs.declared.class_rules.ClassRules.{ClassRules}

-- what the version holds
abbrev pub state_of : ClassRules → State
state_of narrowed = narrowed.version.now

-- the rules are those of the version that match the packet if it is given some destination
abbrev pub AreOfClass : Packet → ClassRules → Type 0
AreOfClass packet narrowed = narrowed.rules.items ≡ filter (can_match packet) (state_of narrowed).rules
