-- An index of rules: those that may match a packet are in the few lists that its source and its destination name.
use Rattle.std.specs.Prelude.{◌≡◌, ℕ, ◌+◌, ◌*◌, ◌/◌, ◌%◌, ◌^◌, ◌<◌, ◌≤◌, ◌==◌, true, nat_lt, if◌then◌else◌, List, [], ◌∷◌, length, slice_index_or}
use Rattle.std.specs.Prelude.{Option, Some, None}
use Rattle.std.specs.List.{Contains}
use Rattle.prt_addr.specs.Block.{Block}
use Rattle.prt_addr.specs.Word.{Word}
use Rattle.prt_rule.specs.Rule.{matches}
use Rattle.prt_rule.specs.declared.rule.Mark.{Mark}
use Rattle.prt_rule.specs.declared.packet.Packet.{Packet}
use Rattle.prt_rule.specs.declared.rule.Rule.{Rule}
use Rattle.prt_version.specs.declared.rule_index.RuleIndex.{RuleIndex}

-- the list of an address at a level, at which this many bits from its end don't count
abbrev pub list_at : ℕ → ℕ → ℕ → ℕ
list_at level bits addr = addr / 2 ^ bits % 64 + 64 * level + 1

-- the list of a prefix, at the first of three levels for which it is long enough; 0 if it is too short for each
abbrev pub list_in : ℕ → Block → ℕ
list_in level prefix = if nat_lt prefix.len 16 then 0 else if nat_lt prefix.len 24 then list_at (level + 2) 16 prefix.bits
    else if nat_lt prefix.len 32 then list_at (level + 1) 8 prefix.bits else list_at level 0 prefix.bits

-- the list of an interface, by a number computed from its name
abbrev pub name_number : ℕ → Word → ℕ
name_number number [] = number
name_number number (byte ∷ bytes) = name_number ((number * 31 + byte) % 64) bytes

abbrev pub list_named : Word → ℕ
list_named name = name_number 0 name + 385

-- the list of a mark, by its last six bits
abbrev pub list_marked : ℕ → ℕ
list_marked mark = mark % 64 + 449

-- the list of a rule without addresses: of its interface, or else of its mark if those bits count
abbrev pub list_beside : Option Word → Option Mark → ℕ
list_beside (Some name) mark = list_named name
list_beside None (Some m) = if m.mask % 64 == 63 then list_marked m.mark else 0
list_beside None None = 0

-- the list of a rule: of its source, or else of its destination, or else of what it names besides; inverted rules are in that of the rest
abbrev pub list_of : Rule → ℕ
list_of rule = if rule.inverted then 0
    else if list_in 0 rule.from == 0 then (if list_in 3 rule.to == 0 then list_beside rule.iif rule.mark else list_in 3 rule.to)
    else list_in 0 rule.from

-- the lists of a packet: of its source, its destination, its interface and its mark, and of the rest
abbrev pub lists_for : Packet → List ℕ
lists_for packet = list_at 0 0 packet.src.0 ∷ list_at 1 8 packet.src.0 ∷ list_at 2 16 packet.src.0 ∷ list_at 3 0 packet.dst.0
    ∷ list_at 4 8 packet.dst.0 ∷ list_at 5 16 packet.dst.0 ∷ list_named packet.iif ∷ list_marked packet.mark ∷ 0 ∷ []

-- the first place of a rule of the list, from this one on; the number of rules if there is none
pub record IsNext (rules : List Rule) (list from place : ℕ) : Type 0 where
  pub beyond : from ≤ place
  pub within : place ≤ length rules
  pub is : (d : Rule) → place < length rules → list_of (slice_index_or rules place d) ≡ list
  pub none : (k : ℕ) (d : Rule) → from ≤ k → k < place → list_of (slice_index_or rules k d) ≡ list → ⊥

-- the lists of the rules from a place on: the first place of each, and for each place the next of its list
pub record AreLinked (rules : List Rule) (from : ℕ) (first next : List ℕ) : Type 0 where
  pub lists : length first ≡ 513
  pub places : length next ≡ length rules
  pub begin : (list d : ℕ) → list < 513 → IsNext rules list from (slice_index_or first list d)
  pub follow : (k e : ℕ) (d : Rule) → from ≤ k → k < length rules → IsNext rules (list_of (slice_index_or rules k d)) (k + 1) (slice_index_or next k e)
  -- each rule is in a list of each packet that it matches
  pub told : (k : ℕ) (d : Rule) (packet : Packet) → from ≤ k → k < length rules → matches (slice_index_or rules k d) packet ≡ true →
      Contains (lists_for packet) (list_of (slice_index_or rules k d))

abbrev pub IsIndex : List Rule → RuleIndex → Type 0
IsIndex rules index = AreLinked rules 0 index.first index.next.items

-- few rules have none
abbrev pub HasIndex : List Rule → Option RuleIndex → Type 0
HasIndex rules None = Unit {0}
HasIndex rules (Some index) = IsIndex rules index
