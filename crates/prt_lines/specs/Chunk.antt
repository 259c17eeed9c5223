-- What the whole lines of a text do to a state, one after the other, up to the first that is refused.
use Rattle.std.specs.Prelude.{◌≡◌, ◌⊎◌, ℕ, ◌+◌, ◌==◌, Bool, false, List, [], ◌∷◌, ◌++◌, length, Option, Some, None}
use Rattle.std.specs.List.{list_any, AllByRecursion as Each}
use Rattle.prt_refusals.specs.declared.refusal.Refusal.{Refusal}
use Rattle.prt_refusals.specs.declared.refusal.Refusal.TheVariants.{NoMemory}
use Rattle.prt_version.specs.State.{State}
use Rattle.prt_lines.specs.Lines.{line_refusal, line_state}
use Rattle.prt_lines.specs.declared.chunk.Executed.{Executed}

abbrev pub has_newline : List ℕ → Bool
has_newline text = list_any (λ b. b == 10) text

-- the text is this line, a newline, and what comes after it
pub record IsCut (text line after : List ℕ) : Type 0 where
  pub parts : text ≡ line ++ 10 ∷ after
  pub whole : has_newline line ≡ false

-- each line with its newline
abbrev pub whole_lines : List (List ℕ) → List ℕ
whole_lines [] = []
whole_lines (line ∷ lines) = line ++ 10 ∷ whole_lines lines

-- the state after these lines
abbrev pub lines_state : State → List (List ℕ) → State
lines_state state [] = state
lines_state state (line ∷ lines) = lines_state (line_state state line) lines

-- each line is refused for nothing in the state after those before it
abbrev pub AreAccepted : State → List (List ℕ) → Type 0
AreAccepted state [] = Unit {0}
AreAccepted state (line ∷ lines) = (line_refusal state line ≡ None) × AreAccepted (line_state state line) lines

-- Lines of the text were accepted one after the other, this is left of it, and this is the state after them.
pub record AreExecuted (before : State) (text rest : List ℕ) (after : State) : Type 0 where
  pub lines : List (List ℕ)
  pub whole : Each (λ line. has_newline line ≡ false) lines
  pub parts : text ≡ whole_lines lines ++ rest
  pub made : after ≡ lines_state before lines
  pub accepted : AreAccepted before lines

-- why no more of the text is executed: it has no whole line more, or the next one is refused
abbrev pub Ends : State → List ℕ → Option Refusal → Type 0
Ends state rest None = has_newline rest ≡ false
Ends state rest (Some reason) = (line : List ℕ) × (after : List ℕ) × IsCut rest line after × ((line_refusal state line ≡ Some reason) ⊎ (reason ≡ NoMemory))

-- what was executed of a text, and what it left
pub record IsRun (before : State) (text : List ℕ) (after : State) (executed : Executed) : Type 0 where
  pub rest : List ℕ
  pub lines : AreExecuted before text rest after
  pub bytes : executed.bytes + length rest ≡ length text
  pub ends : Ends after rest executed.refused
