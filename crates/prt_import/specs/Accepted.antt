-- The lines of a script that are accepted one after the other.
use Rattle.std.specs.Prelude.{◌≡◌, ℕ, ◌+◌, List, [], ◌∷◌, ◌++◌, map, Option, Some, None, codes}
use Rattle.prt_refusals.specs.declared.refusal.Refusal.{Refusal}
use Rattle.prt_version.specs.State.{State, opening_state}
use Rattle.prt_lines.specs.Chunk.{AreAccepted, lines_state}
use Rattle.prt_lines.specs.Lines.{line_refusal, line_state}
use Rattle.prt_import.specs.Lines.{lines_of}
use Rattle.prt_import.specs.Told.{Numbered, Remark, remark, remark_of}
use Rattle.prt_import.specs.declared.accepted.Accepted.{Accepted}
use Rattle.prt_import.specs.declared.reason.Reason.TheVariants as reasons

-- What lines leave: those that are accepted, the state after them, and what is reported of the others.
pub record Executed : Type 0 where
  pub script : List ℕ
  pub state : State
  pub left : List Remark

-- a line that is refused for nothing, and a newline
abbrev pub accepted_line : List ℕ → Option Refusal → List ℕ
accepted_line line None = line ++ codes "\n"
accepted_line line (Some refusal) = []

-- what is reported of a line that is refused
abbrev pub refused_line : Numbered → Option Refusal → List Remark
refused_line line None = []
refused_line line (Some refusal) = remark line [] (reasons.Refused refusal) ∷ []

-- this line before the others: accepted, or refused for this
abbrev pub onto : Numbered → Option Refusal → Executed → Executed
onto line refusal others = record {
  script = accepted_line line.content refusal ++ others.script;
  state = others.state;
  left =
      refused_line line refusal ++ others.left;
}

-- the lines from this number on, over this state, which stays if one is refused
abbrev pub executed : State → ℕ → List (List ℕ) → Executed
executed state number [] = record { script = []; state = state; left = [] }
executed state number (line ∷ lines) =
    onto (record { number = number; content = line }) (line_refusal state line) (executed (line_state state line) (number + 1) lines)

-- these lines were added, this is the version then, and this was reported
pub record Extends (old new : Accepted) (added : List ℕ) (after : State) (told : List Remark) : Type 0 where
  pub script : new.script.items ≡ old.script.items ++ added
  pub version : new.version ≡ after
  pub left : map remark_of new.left.items ≡ map remark_of old.left.items ++ told

-- no line was executed yet over this state
pub record BeginsAt (state : State) (made : Accepted) : Type 0 where
  pub script : made.script.items ≡ []
  pub version : made.version ≡ state
  pub left : map remark_of made.left.items ≡ []

-- what was made of a text is that of its lines over this state
pub record IsExecutedOver (state : State) (made : Accepted) (text : List ℕ) : Type 0 where
  pub script : made.script.items ≡ (executed state 1 (lines_of text)).script
  pub version : made.version ≡ (executed state 1 (lines_of text)).state
  pub left : map remark_of made.left.items ≡ (executed state 1 (lines_of text)).left

-- that of its lines over a new database
abbrev pub IsExecuted : Accepted → List ℕ → Type 0
IsExecuted = IsExecutedOver opening_state

-- each line of the script is accepted after those before it, and the version is the one after the last
pub record IsAcceptedScript (script : List ℕ) (after : State) : Type 0 where
  pub accepted : AreAccepted opening_state (lines_of script)
  pub made : after ≡ lines_state opening_state (lines_of script)
