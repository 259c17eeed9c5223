-- The numbers of outcomes.
use Rattle.std.specs.Prelude.{ℕ, ◌≡◌, ◌^◌, ◌<◌, ◌≤◌, List, length, slice_index, Some}
use Rattle.std.specs.List.{slice_get}
use Rattle.prt_partition.specs.declared.sameness.Outcome.{Outcome}
use Rattle.prt_rule.specs.declared.packet.Packet.{Packet}
use Rattle.prt_version.specs.State.{State}
use Rattle.prt_fib.specs.Fib.{AreDistinct, outcome_to}
use Rattle.prt_fib.specs.Hashes.{IsNew}

-- the number is that of the outcome, and what had a number keeps it
pub record IsNumber (old : List Outcome) (outcome : Outcome) (number : ℕ) (new : List Outcome) : Type 0 where
  pub longer : length old ≤ length new
  pub keeps : (k : ℕ) → k < length old → slice_get new k ≡ slice_get old k
  pub told : slice_get new number ≡ Some outcome
  pub origin : (k : ℕ) → length old ≤ k → k < length new → slice_get new k ≡ Some outcome

-- there is no number left for the outcome, which has none
pub record IsLeftOut (outcomes : List Outcome) (outcome : Outcome) : Type 0 where
  pub many : 2 ^ 16 ≤ length outcomes
  pub distinct : AreDistinct outcomes
  pub absent : IsNew outcomes outcome

-- each start has the number of what becomes of the packet there, and each outcome occurs
pub record AreNumbered (state : State) (packet : Packet) (starts numbers : List ℕ) (outcomes : List Outcome) : Type 0 where
  pub same : length numbers ≡ length starts
  pub told : (k : ℕ) → k < length starts → slice_get outcomes (slice_index numbers k) ≡ Some (outcome_to state packet (slice_index starts k))
  pub occur : (number : ℕ) → number < length outcomes → (addr : ℕ) × (addr < 2 ^ 32) × (slice_get outcomes number ≡ Some (outcome_to state packet addr))
