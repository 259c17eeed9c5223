-- When some groups can take the place of others.
use Rattle.std.specs.Prelude.{◌≡◌, true, List}
use Rattle.std.specs.List.{list_any, AllByRecursion as Each}
use Rattle.prt_addr.specs.Word.{Word}
use Rattle.prt_rule.specs.declared.packet.Packet.{Packet}
use Rattle.prt_rule.specs.declared.rule.Rule.{Rule}
use Rattle.prt_version.specs.State.{State}
use Rattle.prt_partition.specs.Classes.{IsPacket}
use Rattle.prt_partition.specs.declared.sameness.Sameness.{Sameness}
use Rattle.prt_impact.specs.Groups.{IsGroup, in_group, rules_of, takes_interface}
use Rattle.prt_impact.specs.declared.group.Group.{Group}
use Rattle.prt_impact.specs.declared.group.InterfaceSet.{InterfaceSet}

-- If what the old groups say is so, then so is what the new ones say, and they have each packet that the old ones have.
pub record Replaces (sameness : Sameness) (before after : State) (old new : List Group) : Type 0 where
  pub sound : Each (IsGroup sameness before after) old → Each (IsGroup sameness before after) new
  pub complete : Each (IsGroup sameness before after) old → (packet : Packet) → IsPacket packet →
      list_any (in_group (rules_of before after) packet) old ≡ true → list_any (in_group (rules_of before after) packet) new ≡ true

-- whatever the two versions are
abbrev pub AlwaysReplaces : List Group → List Group → Type 0
AlwaysReplaces old new = (sameness : Sameness) (before after : State) → Replaces sameness before after old new

-- each interface is one of these
abbrev pub AreAll : List Rule → List InterfaceSet → Type 0
AreAll rules interfaces = (iif : Word) → list_any (λ one. takes_interface rules one iif) interfaces ≡ true

-- whatever the two versions are, if each interface is one of these by their rules
abbrev pub ReplacesIfAll : List InterfaceSet → List Group → List Group → Type 0
ReplacesIfAll interfaces old new = (sameness : Sameness) (before after : State) → AreAll (rules_of before after) interfaces →
    Replaces sameness before after old new

-- whatever the two versions are, if they have these rules
abbrev pub ReplacesAt : List Rule → List Group → List Group → Type 0
ReplacesAt rules old new = (sameness : Sameness) (before after : State) → rules ≡ rules_of before after → Replaces sameness before after old new
