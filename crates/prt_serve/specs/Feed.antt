-- What a feed sends: the tables as they are at one number, each command that is published after it, and comments.
use Rattle.std.specs.Prelude.{◌≡◌, ℕ, ◌+◌, ◌==◌, ◌⊎◌, Bool, true, false, not, List, [], ◌∷◌, ◌++◌, Option, Some, None, codes, decimal, filter}
use Rattle.prt_command.specs.declared.request.Command.{Command}
use Rattle.prt_feed.specs.Feed.{change_line, opening_text}
use Rattle.prt_published.specs.Line.{Line, grown_by, line_state}
use Rattle.prt_listing.specs.QueryText.{lines_text}
use Rattle.prt_serve.specs.Requests.{number_of}
use Rattle.prt_replies.specs.Written.{Written}
use Rattle.prt_version.specs.State.{State}

-- ---- lines after the tables

-- A line of a feed after its tables.
pub data Piece : Type 0 where
  -- a command that was published
  Change : Command → Piece
  -- a comment, which asks for nothing: a heartbeat, or how many commands come that were made together
  Comment : Option ℕ → Piece

abbrev pub comment_text : Option ℕ → List ℕ
comment_text None = codes "#"
comment_text (Some count) = codes "# together " ++ decimal count

-- the lines of these, the first command of which comes after this number
abbrev pub told_lines : ℕ → List Piece → List (List ℕ)
told_lines number [] = []
told_lines number (Comment comment ∷ pieces) = comment_text comment ∷ told_lines number pieces
told_lines number (Change command ∷ pieces) = change_line (number + 1) command ∷ told_lines (number + 1) pieces

-- the commands among them
abbrev pub commands_in : List Piece → List Command
commands_in [] = []
commands_in (Comment comment ∷ pieces) = commands_in pieces
commands_in (Change command ∷ pieces) = command ∷ commands_in pieces

-- the tables of a state that was published, and those lines
abbrev pub told_text : State → List Piece → List ℕ
told_text state pieces = opening_text state ++ lines_text (told_lines state.count pieces)

-- ---- comments that are left out

abbrev pub is_comment : List ℕ → Bool
is_comment [] = false
is_comment (b ∷ line) = b == 35

-- the lines that are no comments
abbrev pub without_comments : List (List ℕ) → List (List ℕ)
without_comments lines = filter (λ line. not (is_comment line)) lines

-- ---- what was written

-- a comment or nothing was written; if not all of it went well, a part of that
abbrev pub Remarks : Bool → Option (List ℕ) → Option (List ℕ) → Type 0
Remarks whole writer0 writer = Written whole writer0 writer [] ⊎ ((comment : Option ℕ) × Written whole writer0 writer (comment_text comment ++ codes "\n"))

-- The lines of the commands that were learned were written, with comments between them; if not all of it went well, a
-- part of them.
pub record Tells (known0 known : Line) (whole : Bool) (writer0 writer : Option (List ℕ)) : Type 0 where
  pub pieces : List Piece
  pub grows : known ≡ grown_by known0 (commands_in pieces)
  pub written : Written whole writer0 writer (lines_text (told_lines (number_of known0) pieces))

-- The text of a feed was written: the tables after a published list, and each command that was published after it and
-- learned, with comments between them; if not all of it went well, a part of that.
pub record Feeds (opening known : Line) (whole : Bool) (writer0 writer : Option (List ℕ)) : Type 0 where
  pub pieces : List Piece
  pub grows : known ≡ grown_by opening (commands_in pieces)
  pub numbered : (line_state opening).count ≡ number_of opening
  pub written : Written whole writer0 writer (told_text (line_state opening) pieces)
