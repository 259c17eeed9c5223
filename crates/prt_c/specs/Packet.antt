-- The packet that C describes.
use Rattle.std.specs.Prelude.{ℕ, ◌==◌, List, [], ◌∷◌, Result, Ok, codes}
use Rattle.std.specs.List.{before_first}
use Rattle.std.specs.Option.{ok_or}
use Rattle.prt_refusals.specs.declared.refusal.Refusal.{Refusal}
use Rattle.prt_refusals.specs.declared.refusal.Refusal.TheVariants.{BadName}
use Rattle.prt_command.specs.Then.{◌>>=◌}
use Rattle.prt_route.specs.Dev.{device}
use Rattle.prt_rule.specs.declared.packet.Packet.{Packet}
use Rattle.prt_c.specs.declared.packet.PacketC.{PacketC}

-- the bytes before the first zero
abbrev pub name_in : List ℕ → List ℕ
name_in bytes = before_first (λ b. b == 0) bytes

-- the interface of this name; `lo` if there is none
abbrev pub interface_named : List ℕ → Result (List ℕ) Refusal
interface_named [] = Ok (codes "lo")
interface_named (b ∷ bs) = ok_or (device (b ∷ bs)) BadName

abbrev pub interface_of : List ℕ → Result (List ℕ) Refusal
interface_of bytes = interface_named (name_in bytes)

-- the packet, with the name of its interface
abbrev pub packet_by : PacketC → List ℕ → Packet
packet_by packet name = record { dst = record { 0 = packet.destination }; src = record { 0 = packet.source }; iif = name; mark = packet.mark }

abbrev pub packet_of : PacketC → Result Packet Refusal
packet_of packet = interface_of packet.interface >>= λ name. Ok (packet_by packet name)
