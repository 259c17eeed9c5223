-- Boxes of packets: ranges of sources, interfaces, and blocks of marks.
use Rattle.std.specs.Prelude.{◌≡◌, ◌⊎◌, ℕ, ◌+◌, ◌-◌, ◌*◌, ◌^◌, length, ◌<◌, ◌≤◌, Bool, true, not, ◌&&◌, if◌then◌else◌, nat_le, List, [], ◌∷◌, ◌++◌}
use Rattle.std.specs.Prelude.{flat_map, map, Option, Some, None, bytes_eq, count_by}
use Rattle.std.specs.List.{list_any, AllByRecursion as Each, Contains, IsDistinct}
use Rattle.prt_addr.specs.Word.{Word}
use Rattle.prt_refusals.specs.declared.refusal.Refusal.{Refusal}
use Rattle.prt_refusals.specs.declared.refusal.Refusal.TheVariants.{Full, NoMemory}
use Rattle.prt_rule.specs.Rule.{matches, takes_mark}
use Rattle.prt_rule.specs.declared.packet.Packet.{Packet}
use Rattle.prt_rule.specs.declared.rule.Mark.{Mark}
use Rattle.prt_rule.specs.declared.rule.Rule.{Rule}
use Rattle.prt_partition.specs.Classes.{IsPacket, is_named}
use Rattle.prt_partition.specs.Cuts.{AreStarts, from_cuts, to}
use Rattle.prt_partition.specs.Marks.{mark_blocks}
use Rattle.prt_partition.specs.declared.limits.TheConstants.{MOST_BOXES}
use Rattle.prt_partition.specs.declared.packet_box.Interfaces.{Interfaces}
use Rattle.prt_partition.specs.declared.packet_box.Interfaces.TheVariants.{Named, AllOthers}
use Rattle.prt_partition.specs.declared.packet_box.PacketBox.{PacketBox}

-- ---- which packets a box has

abbrev pub is_between : ℕ → ℕ → ℕ → Bool
is_between first last n = nat_le first n && nat_le n last

-- the interface is the one of this name, or one that no rule names
abbrev pub has_interface : List Rule → Interfaces → Word → Bool
has_interface rules (Named name) iif = bytes_eq name iif
has_interface rules AllOthers iif = not (is_named rules iif)

-- the packet's source, interface and mark are in the box, whatever its destination
abbrev pub has_packet : List Rule → Packet → PacketBox → Bool
has_packet rules packet box =
    is_between box.first.0 box.last.0 packet.src.0
    && has_interface rules box.interfaces packet.iif
    && takes_mark (Some box.mark) packet.mark

-- every rule takes both packets or neither, whatever destination the two are given
abbrev pub AreTakenAlike : List Rule → Packet → Packet → Type 0
AreTakenAlike rules packet other = (addr : ℕ) → Each (λ (rule : Rule). matches rule (to packet addr) ≡ matches rule (to other addr)) rules

-- the box has at least one source, and its numbers have 32 bits
pub record IsBox (box : PacketBox) : Type 0 where
  pub some : box.first.0 ≤ box.last.0
  pub last : box.last.0 < 2 ^ 32
  pub mark : box.mark.mark < 2 ^ 32

-- Every packet is in exactly one box, and every rule takes all packets of a box alike.
pub record AreBoxes (rules : List Rule) (boxes : List PacketBox) : Type 0 where
  pub once : (packet : Packet) → IsPacket packet → count_by (has_packet rules packet) boxes ≡ 1
  pub alike : Each (λ box. (packet other : Packet) → IsPacket packet → IsPacket other → has_packet rules packet box ≡ true →
      has_packet rules other box ≡ true → AreTakenAlike rules packet other) boxes
  pub each : Each IsBox boxes

-- the sources at which a rule begins or ceases to match, and 0.0.0.0, each of them once
pub record AreSourceStarts (rules : List Rule) (starts : List ℕ) : Type 0 where
  pub are : AreStarts (from_cuts rules) starts
  pub only : (start : ℕ) → Contains starts start → (start ≡ 0) ⊎ Contains (from_cuts rules) start

-- the interfaces that rules name, each of them once
pub record AreNames (rules : List Rule) (names : List Word) : Type 0 where
  pub once : IsDistinct bytes_eq names
  pub all : (iif : Word) → list_any (bytes_eq iif) names ≡ is_named rules iif

-- There would be too many boxes: one for each block of marks, for each range of sources and each name of an interface, or none of the names.
abbrev pub AreTooMany : List Rule → Type 0
AreTooMany rules =
    (MOST_BOXES < length (mark_blocks rules))
    ⊎ ((starts : List ℕ) × (names : List Word) × AreSourceStarts rules starts × AreNames rules names
    × (MOST_BOXES < length starts * (length names + 1) * length (mark_blocks rules)))

-- why no boxes are made: memory is refused, or there would be too many
abbrev pub IsUndivided : List Rule → Refusal → Type 0
IsUndivided rules reason = (reason ≡ NoMemory) ⊎ ((reason ≡ Full) × AreTooMany rules)

-- ---- how they are made

-- the names, and this one if it isn't among them
abbrev pub with_name : List Word → Option Word → List Word
with_name names None = names
with_name names (Some name) = if list_any (bytes_eq name) names then names else names ++ name ∷ []

abbrev pub all_interfaces : List Word → List Interfaces
all_interfaces names = AllOthers ∷ map Named names

abbrev pub box_of : ℕ → ℕ → Interfaces → Mark → PacketBox
box_of first last interfaces mark = record { first = record { 0 = first }; last = record { 0 = last }; interfaces = interfaces; mark = mark }

-- the boxes of a range of sources
abbrev pub boxes_between : ℕ → ℕ → List Interfaces → List Mark → List PacketBox
boxes_between first last interfaces marks = flat_map (λ one. map (box_of first last one) marks) interfaces

-- the last source before the next one begins
abbrev pub last_before : List ℕ → ℕ
last_before [] = 4294967295
last_before (start ∷ starts) = start - 1

-- the boxes of the ranges that begin at these sources
abbrev pub boxes_from : List ℕ → List Interfaces → List Mark → List PacketBox
boxes_from [] interfaces marks = []
boxes_from (start ∷ starts) interfaces marks = boxes_between start (last_before starts) interfaces marks ++ boxes_from starts interfaces marks

-- ---- a packet of a box

-- an interface of the box: the one that is given if it has all that no rule names
abbrev pub one_of : Word → Interfaces → Word
one_of fresh (Named name) = name
one_of fresh AllOthers = fresh

-- a packet of the box, to 0.0.0.0
abbrev pub packet_of : Word → PacketBox → Packet
packet_of fresh box = record { dst = record { 0 = 0 }; src = box.first; iif = one_of fresh box.interfaces; mark = box.mark.mark }
