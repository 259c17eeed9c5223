-- What the steps of reading a feed do.
use Rattle.std.specs.Prelude.{◌≡◌, ℕ, List, [], ◌∷◌, ◌++◌, Option, Some}
use Rattle.prt_lines.specs.Lines.{line_refusal}
use Rattle.prt_version.specs.State.{State}
use Rattle.prt_feed.specs.Following.{now_line}
use Rattle.prt_feed.specs.Reading.{AreTables, AreTaken, IsNoState, IsTaken, IsWhyRefused}
use Rattle.prt_feed.specs.declared.opening.OpeningError.{OpeningError}
use Rattle.prt_feed.specs.declared.opening.OpeningError.TheVariants as reasons

-- why a line was not executed
abbrev pub IsWhyNotExecuted : State → List ℕ → OpeningError → Type 0
IsWhyNotExecuted tables line reasons.CutOff = ⊥
IsWhyNotExecuted tables line reasons.NoFeed = ⊥
IsWhyNotExecuted tables line (reasons.Refused reason) = line_refusal tables line ≡ Some reason
IsWhyNotExecuted tables line reasons.NoMemory = Unit {0}

-- why the first line gave no number
abbrev pub IsWhyNoNumber : Option (List ℕ) → Option (List ℕ) → OpeningError → Type 0
IsWhyNoNumber reader0 reader reasons.CutOff = Unit {0}
IsWhyNoNumber reader0 reader reasons.NoFeed = (line : List ℕ) × IsTaken reader0 reader line × IsNoState line
IsWhyNoNumber reader0 reader (reasons.Refused reason) = ⊥
IsWhyNoNumber reader0 reader reasons.NoMemory = ⊥

-- Tables were read, and `now` after them.
pub record AreTablesRead (reader0 reader : Option (List ℕ)) (tables : State) : Type 0 where
  pub lines : List (List ℕ)
  pub made : AreTables tables lines
  pub taken : AreTaken reader0 reader (lines ++ (now_line ∷ []))

-- why they were not
abbrev pub IsWhyNoTables : Option (List ℕ) → Option (List ℕ) → OpeningError → Type 0
IsWhyNoTables reader0 reader reasons.CutOff = Unit {0}
IsWhyNoTables reader0 reader reasons.NoFeed = ⊥
IsWhyNoTables reader0 reader (reasons.Refused reason) = IsWhyRefused reader0 reader reason
IsWhyNoTables reader0 reader reasons.NoMemory = Unit {0}
