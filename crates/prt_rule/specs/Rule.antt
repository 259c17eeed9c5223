-- Which packets a rule matches, which rules are the same, and where a new one goes: ip-rule(8).
use Rattle.std.specs.Prelude.{ℕ, ◌-◌, Bool, true, not, ◌&&◌, ◌==◌, nat_lt, ◌||◌, if◌then◌else◌, List, [], ◌∷◌, Option, Some, None, bytes_eq, bit_and, bit_xor}
use Rattle.prt_addr.specs.Prefix.{contains}
use Rattle.prt_addr.specs.Word.{Word}
use Rattle.prt_rule.specs.declared.packet.Packet.{Packet}
use Rattle.prt_rule.specs.declared.rule.Mark.{Mark}
use Rattle.prt_rule.specs.declared.rule.Rule.{Rule}

-- the interface is the one that is given, if one is
abbrev pub takes_interface : Option Word → Word → Bool
takes_interface None iif = true
takes_interface (Some name) iif = bytes_eq name iif

-- the marks agree in the bits of the mask, if a mark is given
abbrev pub takes_mark : Option Mark → ℕ → Bool
takes_mark None mark = true
takes_mark (Some m) mark = bit_and (bit_xor m.mark mark) m.mask == 0

-- all that the selector names holds of the packet
abbrev pub selects : Rule → Packet → Bool
selects rule packet = contains rule.from packet.src && contains rule.to packet.dst && takes_interface rule.iif packet.iif && takes_mark rule.mark packet.mark

-- `not` inverts the whole answer
abbrev pub matches : Rule → Packet → Bool
matches rule packet = if rule.inverted then not (selects rule packet) else selects rule packet

-- the rule is tried before the other: by priority, then by id
abbrev pub is_before : Rule → Rule → Bool
is_before rule other = nat_lt rule.priority other.priority || (rule.priority == other.priority && nat_lt rule.id other.id)

-- the priority of a rule that is added without one, to rules in order: that of the second rule less one, or 0
abbrev pub auto_priority : List Rule → ℕ
auto_priority [] = 0
auto_priority (first ∷ []) = 0
auto_priority (first ∷ second ∷ rules) = second.priority - 1
