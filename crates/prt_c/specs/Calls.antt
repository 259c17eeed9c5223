-- What each call on tables returns, and what it leaves in what C holds.
use Rattle.std.specs.Prelude.{◌≡◌, ◌⊎◌, ℕ, List, Option, None, Some, Result, Ok, Err}
use Rattle.std.specs.Arc.{arc_value}
use Rattle.prt_refusals.specs.Refusal.{code_of}
use Rattle.prt_refusals.specs.declared.refusal.Refusal.{Refusal}
use Rattle.prt_refusals.specs.declared.refusal.Refusal.TheVariants.{NoMemory}
use Rattle.prt_version.specs.State.{State, opening_state}
use Rattle.prt_lines.specs.Chunk.{IsRun}
use Rattle.prt_lines.specs.Lines.{line_refusal, line_state}
use Rattle.prt_c.specs.States.{held_state}
use Rattle.prt_c.specs.declared.held.Held.{Held}
use Rattle.prt_c.specs.declared.owner.Owner.{Owner}
use Rattle.prt_c.specs.declared.status.TheConstants.{DONE, EMPTY}

-- what is held owns this state afterwards, or memory was refused and it is what it was
abbrev pub Holds : State → Option Owner → Option Owner → ℕ → Type 0
Holds state before after result =
    (result ≡ DONE) × (held_state after ≡ Some state)
    ⊎ (result ≡ code_of NoMemory) × (after ≡ before)

-- what was made is held afterwards, or the reason is reported and what was held stays
abbrev pub Puts : Option Owner → Result Held Refusal → Option Owner → ℕ → Type 0
Puts before (Ok made) after result = (result ≡ DONE) × (after ≡ made.home)
Puts before (Err reason) after result = (result ≡ code_of reason) × (after ≡ before)

-- new tables
abbrev pub AreMade : Option Owner → Option Owner → ℕ → Type 0
AreMade before after result = Holds opening_state before after result

-- one owner more of the version of the tables, in the place of what was held
abbrev pub IsOwned : Option Owner → Option Owner → Option Owner → ℕ → Type 0
IsOwned None before after result = (result ≡ EMPTY) × (after ≡ before)
IsOwned (Some tables) before after result = Holds (arc_value tables.version) before after result

-- A line was executed, and the number is that of the commands accepted so far; or it was refused.
pub record IsAccepted (state : State) (line : List ℕ) (after : Option Owner) (number result : ℕ) : Type 0 where
  pub done : result ≡ DONE
  pub allowed : line_refusal state line ≡ None
  pub made : held_state after ≡ Some (line_state state line)
  pub counted : number ≡ (line_state state line).count

-- A refused line leaves the tables and the number as they were.
pub record IsRefused (state : State) (line : List ℕ) (before after : Option Owner) (number_before number result : ℕ) : Type 0 where
  pub reason : Refusal
  pub told : result ≡ code_of reason
  pub why : (line_refusal state line ≡ Some reason) ⊎ (reason ≡ NoMemory)
  pub same : after ≡ before
  pub uncounted : number ≡ number_before

abbrev pub IsLineOf : Option Owner → List ℕ → Option Owner → ℕ → ℕ → ℕ → Type 0
IsLineOf None line after number_before number result = (result ≡ EMPTY) × (after ≡ None) × (number ≡ number_before)
IsLineOf (Some tables) line after number_before number result =
    IsAccepted (arc_value tables.version) line after number result
    ⊎ IsRefused (arc_value tables.version) line (Some tables) after number_before number result

-- why no more lines are executed
abbrev pub stop_number : Option Refusal → ℕ
stop_number None = DONE
stop_number (Some reason) = code_of reason

-- Whole lines of a text were executed, up to the first that is refused, which the result says.
pub record AreRun (state : State) (text : List ℕ) (after : Option Owner) (bytes number result : ℕ) : Type 0 where
  pub next : State
  pub refused : Option Refusal
  pub run : IsRun state text next (record { bytes = bytes; refused = refused })
  pub made : held_state after ≡ Some next
  pub counted : number ≡ next.count
  pub told : result ≡ stop_number refused

abbrev pub AreLinesOf : Option Owner → List ℕ → Option Owner → ℕ → ℕ → ℕ → ℕ → ℕ → Type 0
AreLinesOf None text after bytes_before bytes number_before number result =
    (result ≡ EMPTY) × (after ≡ None) × (bytes ≡ bytes_before) × (number ≡ number_before)
AreLinesOf (Some tables) text after bytes_before bytes number_before number result =
    AreRun (arc_value tables.version) text after bytes number result
