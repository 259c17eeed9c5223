-- What becomes of packets that differ in their destinations alone.
use Rattle.std.specs.Prelude.{ℕ, ◌≡◌, ◌≢◌, ◌^◌, ◌<◌, List, length, map, Some}
use Rattle.std.specs.List.{slice_get}
use Rattle.prt_addr.specs.declared.addr.Addr.{Addr}
use Rattle.prt_partition.specs.Cuts.{to}
use Rattle.prt_partition.specs.Sameness.{outcome_of}
use Rattle.prt_partition.specs.declared.sameness.Outcome.{Outcome}
use Rattle.prt_rule.specs.declared.packet.Packet.{Packet}
use Rattle.prt_version.specs.Select.{select}
use Rattle.prt_version.specs.State.{State}

-- A state, a packet whose destination doesn't matter, and outcomes by their numbers.
pub record Table : Type 0 where
  pub state : State
  pub packet : Packet
  pub outcomes : List Outcome

-- what becomes of the packet to this destination
abbrev pub outcome_to : State → Packet → ℕ → Outcome
outcome_to state packet addr = outcome_of (select state (to packet addr))

-- each destination has the number of what becomes of the packet to it
abbrev pub AreNumbersOf : Table → List Addr → List ℕ → Type 0
AreNumbersOf table destinations numbers =
    map (slice_get table.outcomes) numbers ≡ map (λ (dst : Addr). Some (outcome_to table.state table.packet dst.0)) destinations

-- no outcome has two numbers
abbrev pub AreDistinct : List Outcome → Type 0
AreDistinct outcomes = (i j : ℕ) → i < j → j < length outcomes → slice_get outcomes i ≢ slice_get outcomes j

-- outcomes that the packet has, more than 16 bits count
pub record AreTooMany (state : State) (packet : Packet) (outcomes : List Outcome) : Type 0 where
  pub many : 2 ^ 16 < length outcomes
  pub distinct : AreDistinct outcomes
  pub occur : (number : ℕ) → number < length outcomes → (addr : ℕ) × (addr < 2 ^ 32) × (slice_get outcomes number ≡ Some (outcome_to state packet addr))

abbrev pub HasTooMany : State → Packet → Type 0
HasTooMany state packet = (outcomes : List Outcome) × AreTooMany state packet outcomes
