-- What the parts of the program compute.
use Rattle.std.specs.Prelude.{ℕ, ◌≡◌, ◌+◌, ◌&&◌, ◌||◌, ◌==◌, Bool, true, false, List, [], ◌∷◌, ◌++◌, bit_and, bit_xor, bytes_eq, map}
use Rattle.std.specs.Cmp.Lexicographic.{pointwise}
use Rattle.prt_rule.specs.Same.{is_same_flag}
use Rattle.prt_rule.specs.declared.packet.Packet.{Packet}
use Rattle.prt_rule.specs.declared.rule.Mark.{Mark}
use Rattle.prt_version.specs.State.{State}
use Rattle.prt_partition.specs.Marks.{bit, flipped, kept}
use Rattle.prt_partition.specs.Sameness.{is_same_verdict}
use Rattle.prt_partition.specs.Spans.{AreDifferences}
use Rattle.prt_partition.specs.declared.differences.Difference.{Difference}
use Rattle.prt_partition.specs.declared.packet_box.Interfaces.{Interfaces as BoxInterfaces}
use Rattle.prt_partition.specs.declared.packet_box.Interfaces.TheVariants as of_box
use Rattle.prt_partition.specs.declared.packet_box.PacketBox.{PacketBox}
use Rattle.prt_partition.specs.declared.sameness.Sameness.{Sameness}
use Rattle.prt_impact.specs.MarkSets.{only}
use Rattle.prt_impact.specs.declared.group.AddrRange.{AddrRange}
use Rattle.prt_impact.specs.declared.group.Group.{Group}
use Rattle.prt_impact.specs.declared.group.InterfaceSet.{InterfaceSet}
use Rattle.prt_impact.specs.declared.group.InterfaceSet.TheVariants.{Named, AllOthers, All}
use Rattle.prt_impact.specs.declared.mark_set.MarkSet.{MarkSet}

-- ---- the groups of a box

abbrev pub interfaces_of : BoxInterfaces → InterfaceSet
interfaces_of (of_box.Named name) = Named name
interfaces_of of_box.AllOthers = AllOthers

-- the packets of the box to the destinations of the difference
abbrev pub group_of : PacketBox → Difference → Group
group_of box difference = record {
  to = record { first = difference.first; last = difference.last };
  from = record { first = box.first; last = box.last };
  interfaces = interfaces_of box.interfaces;
  marks = only (box.mark ∷ []);
  was = difference.was;
  is = difference.is;
}

-- the groups of the differences of a box are appended
pub record AddsBox (sameness : Sameness) (before after : State) (box : PacketBox) (packet : Packet) (old new : List Group) : Type 0 where
  pub differences : List Difference
  pub are : AreDifferences sameness before after packet differences
  pub whole : new ≡ old ++ map (group_of box) differences

-- ---- what is the same

abbrev pub is_same_range : AddrRange → AddrRange → Bool
is_same_range a b = a.first.0 == b.first.0 && a.last.0 == b.last.0

abbrev pub is_same_interfaces : InterfaceSet → InterfaceSet → Bool
is_same_interfaces (Named a) (Named b) = bytes_eq a b
is_same_interfaces AllOthers AllOthers = true
is_same_interfaces All All = true
is_same_interfaces _ _ = false

abbrev pub is_same_mark : Mark → Mark → Bool
is_same_mark a b = a.mark == b.mark && a.mask == b.mask

abbrev pub is_same_marks : MarkSet → MarkSet → Bool
is_same_marks a b = is_same_flag a.inverted b.inverted && pointwise is_same_mark a.blocks b.blocks

-- equal in every part
abbrev pub is_same_group : Group → Group → Bool
is_same_group a b =
    is_same_range a.to b.to
    && is_same_range a.from b.from
    && is_same_interfaces a.interfaces b.interfaces
    && is_same_marks a.marks b.marks
    && is_same_verdict a.was b.was
    && is_same_verdict a.is b.is

-- ---- what is joined

-- the range begins just after the other one ends
abbrev pub follows : AddrRange → AddrRange → Bool
follows range next = range.last.0 + 1 == next.first.0

-- both ranges, of which the second follows the first
abbrev pub up_to : AddrRange → AddrRange → AddrRange
up_to range next = record { first = range.first; last = next.last }

-- the block of two blocks that differ in one bit of their marks
abbrev pub whole_of : Mark → Mark → Mark
whole_of a b = record { mark = bit_and a.mark b.mark; mask = bit_xor a.mask (bit_xor a.mark b.mark) }

-- the two are the halves of the block
abbrev pub are_halves : ℕ → Mark → Mark → Mark → Bool
are_halves place block a b =
    bit block.mask place == 0
    && ((is_same_mark a (kept place block) && is_same_mark b (flipped place block))
    || (is_same_mark b (kept place block) && is_same_mark a (flipped place block)))

abbrev pub with_interfaces : Group → InterfaceSet → Group
with_interfaces group interfaces = record group { interfaces = interfaces }

abbrev pub with_marks : Group → MarkSet → Group
with_marks group marks = record group { marks = marks }

-- with the marks of one block
abbrev pub with_block : Group → Mark → Group
with_block group block = with_marks group (only (block ∷ []))
