-- The lines of an input, and how long and how many they may be.
use Rattle.std.specs.Prelude.{ℕ, ◌==◌, Bool, true, false, if◌then◌else◌, List, [], ◌∷◌, ◌++◌, flat_map}

-- A line of the input, and whether a newline ends it.
pub record Line : Type 0 where
  pub content : List ℕ
  pub ended : Bool

abbrev pub onto_line : ℕ → List Line → List Line
onto_line b [] = record { content = b ∷ []; ended = false } ∷ []
onto_line b (line ∷ lines) = record { content = b ∷ line.content; ended = line.ended } ∷ lines

-- the lines of an input; an empty rest after the last newline is no line
unfoldable pub lines_of : List ℕ → List Line
lines_of [] = []
lines_of (b ∷ bs) = if b == 10 then record { content = []; ended = true } ∷ lines_of bs else onto_line b (lines_of bs)

abbrev pub line_bytes : Line → List ℕ
line_bytes line = line.content ++ (if line.ended then 10 ∷ [] else [])

abbrev pub bytes_of : List Line → List ℕ
bytes_of lines = flat_map line_bytes lines

-- the most bytes of a line, without its newline
abbrev pub longest_line : ℕ
longest_line = 1024

-- The bytes after which an unended line ends the session, and how many lines a session may have.
pub record Limits : Type 0 where
  pub unended : ℕ
  pub lines : ℕ

abbrev pub limits : Limits
limits = record { unended = 65536; lines = 1000000 }
