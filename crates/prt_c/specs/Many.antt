-- Packets that are looked up in one call.
use Rattle.std.specs.Prelude.{◌≡◌, ◌⊎◌, ◌<◌, ◌≤◌, ℕ, List, length, slice_index_or, Option, Some, None, Result, Ok, Err}
use Rattle.prt_refusals.specs.declared.refusal.Refusal.{Refusal}
use Rattle.prt_version.specs.State.{State}
use Rattle.prt_c.specs.Calls.{stop_number}
use Rattle.prt_c.specs.declared.packet.PacketC.{PacketC}
use Rattle.prt_c.specs.declared.many.LookedUp.{LookedUp}
use Rattle.prt_c.specs.declared.status.TheConstants.{EMPTY}

-- each packet before this place has there what it is to be told, and the others are as they were
pub record AreAnswers {A : Type 0} (told : PacketC → Result A Refusal) (packets : List PacketC) (before after : List A) (count : ℕ) : Type 0 where
  pub size : length after ≡ length before
  pub answers : (k : ℕ) (packet : PacketC) (answer : A) → k < count → told (slice_index_or packets k packet) ≡ Ok (slice_index_or after k answer)
  pub others : (k : ℕ) (answer : A) → count ≤ k → slice_index_or after k answer ≡ slice_index_or before k answer

-- why no more are looked up: there are none, there is no room for another answer, or the next packet has none
abbrev pub Ends : {A : Type 0} → (PacketC → Result A Refusal) → List PacketC → List A → ℕ → Option Refusal → Type 0
Ends told packets answers count None = (count ≡ length packets) ⊎ (count ≡ length answers)
Ends told packets answers count (Some reason) =
    (count < length packets) × (count < length answers)
    × ((packet : PacketC) → told (slice_index_or packets count packet) ≡ Err reason)

pub record AreLookedUp {A : Type 0} (told : PacketC → Result A Refusal) (packets : List PacketC) (before after : List A) (looked_up : LookedUp) : Type 0 where
  pub packets_within : looked_up.count ≤ length packets
  pub answers_within : looked_up.count ≤ length before
  pub found : AreAnswers told packets before after looked_up.count
  pub ends : Ends told packets before looked_up.count looked_up.refused

-- the same of what is held
abbrev pub AreFound : {A : Type 0} → (State → PacketC → Result A Refusal) → Option State → List PacketC → List A → List A → ℕ → ℕ → ℕ → Type 0
AreFound told None packets before after count_before count result = (result ≡ EMPTY) × (after ≡ before) × (count ≡ count_before)
AreFound told (Some state) packets before after count_before count result =
    (refused : Option Refusal) × AreLookedUp (told state) packets before after (record { count = count; refused = refused }) × (result ≡ stop_number refused)
