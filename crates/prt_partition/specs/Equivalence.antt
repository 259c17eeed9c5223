-- Whether two states answer every packet alike.
use Rattle.std.specs.Prelude.{ℕ, ◌≡◌, ◌^◌, ◌<◌, List, length, slice_index, Option, Some, None}
use Rattle.prt_rule.specs.declared.packet.Packet.{Packet}
use Rattle.prt_version.specs.Select.{select}
use Rattle.prt_version.specs.State.{State}
use Rattle.prt_partition.specs.Classes.{IsPacket}
use Rattle.prt_partition.specs.Cuts.{to}
use Rattle.prt_partition.specs.Sameness.{AreSame}
use Rattle.prt_partition.specs.Touching.{transition_of}
use Rattle.prt_partition.specs.declared.sameness.Sameness.{Sameness}

-- the verdicts on the packet before and after are the same
abbrev pub GoesSame : Sameness → State → State → Packet → Type 0
GoesSame sameness before after packet = AreSame sameness (select before packet) (select after packet)

-- the first of these destinations at which the verdicts on the packet are not the same, if there is one
abbrev pub IsFirstChange : Sameness → State → State → Packet → List ℕ → Option ℕ → Type 0
IsFirstChange sameness before after packet starts None = (k : ℕ) → k < length starts →
    transition_of sameness before after (to packet (slice_index starts k)) ≡ None
IsFirstChange sameness before after packet starts (Some addr) = ¬ GoesSame sameness before after (to packet addr)

-- a packet of this source, interface and mark on which the verdicts are not the same; none if there is none
abbrev pub IsChangeOf : Sameness → State → State → Packet → Option Packet → Type 0
IsChangeOf sameness before after class None = (addr : ℕ) → addr < 2 ^ 32 → GoesSame sameness before after (to class addr)
IsChangeOf sameness before after class (Some packet) = ¬ GoesSame sameness before after packet

-- a packet on which the verdicts are not the same; none if there is none
abbrev pub IsChange : Sameness → State → State → Option Packet → Type 0
IsChange sameness before after None = (packet : Packet) → IsPacket packet → GoesSame sameness before after packet
IsChange sameness before after (Some packet) = ¬ GoesSame sameness before after packet
