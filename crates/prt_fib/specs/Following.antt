-- How the starts and numbers of a piece follow a change of a route.
use Rattle.std.specs.Prelude.{ℕ, ◌≡◌, ◌⊎◌, ◌+◌, ◌<◌, ◌≤◌, List, length, slice_index, Some}
use Rattle.std.specs.List.{insert, slice_get}
use Rattle.prt_partition.specs.declared.sameness.Outcome.{Outcome}
use Rattle.prt_rule.specs.declared.packet.Packet.{Packet}
use Rattle.prt_version.specs.State.{State}
use Rattle.prt_fib.specs.Fib.{outcome_to}
use Rattle.prt_fib.specs.Pieces.{AreTold, Keeps}
use Rattle.prt_fib.specs.Places.{AreStartsFrom, IsPlace, IsStart}

-- the number is a start, or comes after the addresses of the piece
abbrev pub IsDivided : ℕ → List ℕ → ℕ → Type 0
IsDivided base starts n = IsStart starts n ⊎ (base + 16777216 ≤ n)

-- the number is put between its neighbours, with the outcome that it had
pub record IsInserted (base : ℕ) (old_starts old_numbers : List ℕ) (n : ℕ) (starts numbers : List ℕ) : Type 0 where
  pub place : ℕ
  pub at : IsPlace old_starts n place
  pub before : slice_index old_starts place < n
  pub within : n < base + 16777216
  pub starts_are : starts ≡ insert old_starts (place + 1) n
  pub numbers_are : numbers ≡ insert old_numbers (place + 1) (slice_index old_numbers place)

-- nothing has to be put among the starts, or the number is
abbrev pub IsSplit : ℕ → List ℕ → List ℕ → ℕ → List ℕ → List ℕ → Type 0
IsSplit base old_starts old_numbers n starts numbers =
    (IsDivided base old_starts n × (starts ≡ old_starts) × (numbers ≡ old_numbers)) ⊎ IsInserted base old_starts old_numbers n starts numbers

-- both numbers are divided at, and all is told that was
pub record AreDivided (base : ℕ) (old_starts old_numbers : List ℕ) (first end : ℕ) (starts numbers : List ℕ) : Type 0 where
  pub from : AreStartsFrom base starts
  pub same : length numbers ≡ length starts
  pub at_first : IsDivided base starts first
  pub at_end : IsDivided base starts end
  pub tells : (state : State) (packet : Packet) (outcomes : List Outcome) → AreTold state packet outcomes base old_starts old_numbers →
      AreTold state packet outcomes base starts numbers

-- the starts at these places have the numbers of what becomes of the packet there, and the others keep theirs
pub record AreRenumbered (state : State) (packet : Packet) (starts : List ℕ) (first last : ℕ) (old_numbers numbers : List ℕ)
    (old_outcomes outcomes : List Outcome) : Type 0 where
  pub size : length numbers ≡ length old_numbers
  pub keeps : Keeps old_outcomes outcomes
  pub inside : (k : ℕ) → first ≤ k → k < last → slice_get outcomes (slice_index numbers k) ≡ Some (outcome_to state packet (slice_index starts k))
  pub outside : (k : ℕ) → (k < first) ⊎ (last ≤ k) → slice_index numbers k ≡ slice_index old_numbers k
