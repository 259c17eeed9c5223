-- Which packets a change sends another way, as groups of them.
use Rattle.std.specs.Prelude.{ℕ, ◌≡◌, ◌≤◌, Bool, true, not, ◌&&◌, List, ◌++◌, bytes_eq}
use Rattle.std.specs.List.{list_any, AllByRecursion as Each}
use Rattle.prt_addr.specs.Word.{Word}
use Rattle.prt_rule.specs.declared.packet.Packet.{Packet}
use Rattle.prt_rule.specs.declared.rule.Rule.{Rule}
use Rattle.prt_version.specs.Select.{select}
use Rattle.prt_version.specs.State.{State}
use Rattle.prt_partition.specs.Boxes.{is_between}
use Rattle.prt_partition.specs.Classes.{IsPacket, is_named}
use Rattle.prt_partition.specs.Sameness.{AreSame}
use Rattle.prt_partition.specs.declared.sameness.Sameness.{Sameness}
use Rattle.prt_impact.specs.MarkSets.{HasMark, takes_marks}
use Rattle.prt_impact.specs.declared.group.AddrRange.{AddrRange}
use Rattle.prt_impact.specs.declared.group.Group.{Group}
use Rattle.prt_impact.specs.declared.group.InterfaceSet.{InterfaceSet}
use Rattle.prt_impact.specs.declared.group.InterfaceSet.TheVariants.{Named, AllOthers, All}

-- ---- which packets a group has

-- both ends belong to the range
abbrev pub is_in : AddrRange → ℕ → Bool
is_in range n = is_between range.first.0 range.last.0 n

-- the interface is the one of this name, one that no rule names, or any
abbrev pub takes_interface : List Rule → InterfaceSet → Word → Bool
takes_interface rules (Named name) iif = bytes_eq name iif
takes_interface rules AllOthers iif = not (is_named rules iif)
takes_interface rules All iif = true

abbrev pub in_group : List Rule → Packet → Group → Bool
in_group rules packet group =
    is_in group.to packet.dst.0
    && is_in group.from packet.src.0
    && takes_interface rules group.interfaces packet.iif
    && takes_marks group.marks packet.mark

-- the rules of both versions, which say which interfaces have names
abbrev pub rules_of : State → State → List Rule
rules_of before after = before.rules ++ after.rules

-- ---- what groups say

-- there are packets in the group; each of them has its first verdict before, and its second one after, and the two are not the same
pub record IsGroup (sameness : Sameness) (before after : State) (group : Group) : Type 0 where
  pub some_to : group.to.first.0 ≤ group.to.last.0
  pub some_from : group.from.first.0 ≤ group.from.last.0
  pub some_mark : HasMark group.marks
  pub differs : ¬ AreSame sameness group.was group.is
  pub was : (packet : Packet) → IsPacket packet → in_group (rules_of before after) packet group ≡ true → select before packet ≡ group.was
  pub is : (packet : Packet) → IsPacket packet → in_group (rules_of before after) packet group ≡ true → select after packet ≡ group.is

-- A packet is in a group exactly if its verdicts before and after are not the same, and they are those of the group.
pub record AreGroups (sameness : Sameness) (before after : State) (groups : List Group) : Type 0 where
  -- what they say is so
  pub sound : Each (IsGroup sameness before after) groups
  -- no packet is missing
  pub complete : (packet : Packet) → IsPacket packet → ¬ AreSame sameness (select before packet) (select after packet) →
      list_any (in_group (rules_of before after) packet) groups ≡ true
