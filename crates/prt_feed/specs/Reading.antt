-- What a client reads of a feed, up to `now`.
use Rattle.std.specs.Prelude.{◌≡◌, ◌≢◌, ◌⊎◌, ℕ, ◌<◌, ◌≤◌, ◌^◌, false, List, [], ◌∷◌, ◌++◌, length, Option, Some}
use Rattle.std.specs.Io.KnownBytes.{Consumes}
use Rattle.std.specs.List.{AllByRecursion as Each}
use Rattle.prt_refusals.specs.declared.refusal.Refusal.{Refusal}
use Rattle.prt_refusals.specs.declared.refusal.Refusal.TheVariants.{TooManyLines}
use Rattle.prt_dump.specs.PutBack.{IsSameButForIds}
use Rattle.prt_lines.specs.Chunk.{AreAccepted, has_newline, lines_state, whole_lines}
use Rattle.prt_lines.specs.Lines.{line_refusal}
use Rattle.prt_version.specs.State.{State, opening_state}
use Rattle.prt_feed.specs.Following.{now_line, state_line}
use Rattle.prt_feed.specs.declared.opening.OpeningError.{OpeningError}
use Rattle.prt_feed.specs.declared.opening.OpeningError.TheVariants as reasons
use Rattle.prt_feed.specs.declared.opening.Opening.{Opening}

-- ---- lines

-- These whole lines were read.
pub record AreTaken (reader0 reader : Option (List ℕ)) (lines : List (List ℕ)) : Type 0 where
  pub read : Consumes reader0 reader (whole_lines lines)
  pub whole : Each (λ line. has_newline line ≡ false) lines

-- A line was read and its newline, or the first 1,025 bytes of one that is too long.
pub record IsTaken (reader0 reader : Option (List ℕ)) (line : List ℕ) : Type 0 where
  pub newline : List ℕ
  pub read : Consumes reader0 reader (line ++ newline)
  pub bare : has_newline line ≡ false
  pub ended : length line ≤ 1024 → newline ≡ 10 ∷ []

-- no number makes it the first line of a feed
abbrev pub IsNoState : List ℕ → Type 0
IsNoState line = (number : ℕ) → number < 2 ^ 64 → line ≢ state_line number

-- ---- tables

-- Lines that are accepted one after the other over a new database make these tables; none is `now`.
pub record AreTables (tables : State) (lines : List (List ℕ)) : Type 0 where
  pub now : Each (λ line. line ≢ now_line) lines
  pub accepted : AreAccepted opening_state lines
  pub made : tables ≡ lines_state opening_state lines

-- Tables were read, and the next line was refused.
pub record IsRefused (reader0 reader : Option (List ℕ)) (reason : Refusal) : Type 0 where
  pub tables : State
  pub lines : List (List ℕ)
  pub between : Option (List ℕ)
  pub line : List ℕ
  pub made : AreTables tables lines
  pub taken : AreTaken reader0 between lines
  pub next : IsTaken between reader line
  pub other : line ≢ now_line
  pub refused : line_refusal tables line ≡ Some reason

-- Tables of 1,000,000 lines were read.
pub record IsEndless (reader0 reader : Option (List ℕ)) : Type 0 where
  pub tables : State
  pub lines : List (List ℕ)
  pub made : AreTables tables lines
  pub taken : AreTaken reader0 reader lines
  pub count : length lines ≡ 1000000

abbrev pub IsWhyRefused : Option (List ℕ) → Option (List ℕ) → Refusal → Type 0
IsWhyRefused reader0 reader reason = IsRefused reader0 reader reason ⊎ ((reason ≡ TooManyLines) × IsEndless reader0 reader)

-- ---- openings

-- `state` and the number, the lines of the tables, and `now` were read.
pub record IsOpening (reader0 reader : Option (List ℕ)) (opening : Opening) : Type 0 where
  pub lines : List (List ℕ)
  pub tables : AreTables opening.version lines
  pub taken : AreTaken reader0 reader (state_line opening.number ∷ (lines ++ (now_line ∷ [])))

-- why no opening was read
abbrev pub IsWhyNotRead : Option (List ℕ) → Option (List ℕ) → OpeningError → Type 0
IsWhyNotRead reader0 reader reasons.CutOff = Unit {0}
IsWhyNotRead reader0 reader reasons.NoFeed = (line : List ℕ) × IsTaken reader0 reader line × IsNoState line
IsWhyNotRead reader0 reader (reasons.Refused reason) =
    (number : ℕ) × (between : Option (List ℕ)) × AreTaken reader0 between (state_line number ∷ []) × IsWhyRefused between reader reason
IsWhyNotRead reader0 reader reasons.NoMemory = Unit {0}

-- ---- what was sent

-- The opening is that of this state, and what was sent after it is still to be read.
pub record IsReadBack (state : State) (more : List ℕ) (reader : Option (List ℕ)) (opening : Opening) : Type 0 where
  pub number : opening.number ≡ state.count
  pub same : IsSameButForIds opening.version state
  pub left : reader ≡ Some more
