-- What each call on compiled tables returns, and what it leaves in what C holds.
use Rattle.std.specs.Prelude.{◌≡◌, ◌⊎◌, ◌<◌, ◌≤◌, ℕ, List, length, slice_index, Option, option_map, None, Some, Result, Ok, Err}
use Rattle.std.specs.Arc.{arc_value}
use Rattle.std.specs.List.{slice_get}
use Rattle.prt_refusals.specs.Refusal.{code_of}
use Rattle.prt_refusals.specs.declared.refusal.Refusal.{Refusal}
use Rattle.prt_refusals.specs.declared.refusal.Refusal.TheVariants.{Full, NoMemory, NoSuch}
use Rattle.prt_rule.specs.declared.packet.Packet.{Packet}
use Rattle.prt_version.specs.Select.{select}
use Rattle.prt_version.specs.State.{State}
use Rattle.prt_partition.specs.Cuts.{to}
use Rattle.prt_partition.specs.declared.sameness.Outcome.{Outcome}
use Rattle.prt_fib.specs.Fib.{HasTooMany, Table, outcome_to}
use Rattle.prt_c.specs.Answer.{answer_of}
use Rattle.prt_c.specs.Outcome.{outcome_in_c}
use Rattle.prt_c.specs.Packet.{packet_of}
use Rattle.prt_c.specs.declared.answer.AnswerC.{AnswerC}
use Rattle.prt_c.specs.declared.fib_held.FibHeld.{FibHeld}
use Rattle.prt_c.specs.declared.fib_owner.FibOwner.{FibOwner}
use Rattle.prt_c.specs.declared.outcome.OutcomeC.{OutcomeC}
use Rattle.prt_c.specs.declared.packet.PacketC.{PacketC}
use Rattle.prt_c.specs.declared.status.TheConstants.{DONE, EMPTY}

-- the table that a holder owns, if it owns one
abbrev pub held_table : Option FibOwner → Option Table
held_table held = option_map (λ (owner : FibOwner). arc_value owner.fib) held

-- ---- new tables

-- the table of this state and packet is held
abbrev pub IsTableOf : State → Packet → Option Table → Type 0
IsTableOf state packet None = ⊥
IsTableOf state packet (Some table) = (table.state ≡ state) × (table.packet ≡ packet)

-- it is the table of the packet that C describes
pub record IsCompiled (state : State) (packet : PacketC) (table : Option Table) : Type 0 where
  pub looked_up : Packet
  pub read : packet_of packet ≡ Ok looked_up
  pub is : IsTableOf state looked_up table

pub record IsTooLarge (state : State) (packet : PacketC) (reason : Refusal) : Type 0 where
  pub is : reason ≡ Full
  pub looked_up : Packet
  pub read : packet_of packet ≡ Ok looked_up
  pub many : HasTooMany state looked_up

-- why there is no table
abbrev pub IsUncompiled : State → PacketC → Refusal → Type 0
IsUncompiled state packet reason = (packet_of packet ≡ Err reason) ⊎ (IsTooLarge state packet reason ⊎ (reason ≡ NoMemory))

abbrev pub PutsTable : Option FibOwner → Result FibHeld Refusal → Option FibOwner → ℕ → Type 0
PutsTable before (Ok made) after result = (result ≡ DONE) × (after ≡ made.home)
PutsTable before (Err reason) after result = (result ≡ code_of reason) × (after ≡ before)

-- it is held afterwards, or the result is the reason's number and what was held stays
abbrev pub IsNewTable : Option State → PacketC → Option FibOwner → Option FibOwner → ℕ → Type 0
IsNewTable None packet before after result = (result ≡ EMPTY) × (after ≡ before)
IsNewTable (Some state) packet before after result =
    ((result ≡ DONE) × IsCompiled state packet (held_table after))
    ⊎ ((reason : Refusal) × (result ≡ code_of reason) × (after ≡ before) × IsUncompiled state packet reason)

-- one owner more of the same table
abbrev pub IsShared : Option Table → Option FibOwner → Option FibOwner → ℕ → Type 0
IsShared None before after result = (result ≡ EMPTY) × (after ≡ before)
IsShared (Some table) before after result = ((result ≡ DONE) × (held_table after ≡ Some table)) ⊎ ((result ≡ code_of NoMemory) × (after ≡ before))

-- ---- lookups

-- the number is that of what becomes of packets to this destination
abbrev pub IsNumberOf : Table → ℕ → ℕ → Type 0
IsNumberOf table dst number = slice_get table.outcomes number ≡ Some (outcome_to table.state table.packet dst)

abbrev pub IsNumbered : Option Table → ℕ → ℕ → ℕ → ℕ → Type 0
IsNumbered None dst before after result = (result ≡ EMPTY) × (after ≡ before)
IsNumbered (Some table) dst before after result = (result ≡ DONE) × IsNumberOf table dst after

-- each destination before the count has its number, and the other numbers are as they were
pub record AreNumbersIn (table : Table) (destinations before after : List ℕ) (count : ℕ) : Type 0 where
  pub size : length after ≡ length before
  pub within : count ≤ length destinations
  pub numbers : (k : ℕ) → k < count → IsNumberOf table (slice_index destinations k) (slice_index after k)
  pub others : (k : ℕ) → count ≤ k → slice_index after k ≡ slice_index before k

-- all are numbered for which there is room
pub record AreAllIn (table : Table) (destinations before after : List ℕ) (count : ℕ) : Type 0 where
  pub all : (count ≡ length destinations) ⊎ (count ≡ length before)
  pub found : AreNumbersIn table destinations before after count

abbrev pub AreNumbered : Option Table → List ℕ → List ℕ → List ℕ → ℕ → ℕ → ℕ → Type 0
AreNumbered None destinations before after count_before count result = (result ≡ EMPTY) × (after ≡ before) × (count ≡ count_before)
AreNumbered (Some table) destinations before after count_before count result = (result ≡ DONE) × AreAllIn table destinations before after count

-- ---- outcomes and answers

-- the outcome is written, if there is one of the number
abbrev pub WritesOutcome : Option Outcome → OutcomeC → OutcomeC → ℕ → Type 0
WritesOutcome None before after result = (result ≡ code_of NoSuch) × (after ≡ before)
WritesOutcome (Some outcome) before after result = (result ≡ DONE) × (after ≡ outcome_in_c outcome)

abbrev pub IsOutcomeOf : Option Table → ℕ → OutcomeC → OutcomeC → ℕ → Type 0
IsOutcomeOf None number before after result = (result ≡ EMPTY) × (after ≡ before)
IsOutcomeOf (Some table) number before after result = WritesOutcome (slice_get table.outcomes number) before after result

-- the answer of the version to a packet to this destination
abbrev pub IsAnswerOf : Option Table → ℕ → AnswerC → AnswerC → ℕ → Type 0
IsAnswerOf None dst before after result = (result ≡ EMPTY) × (after ≡ before)
IsAnswerOf (Some table) dst before after result =
    (result ≡ DONE) × (after ≡ answer_of table.state.count (select table.state (to table.packet dst)))
