-- Publishers that a program has named.
use Rattle.std.specs.Prelude.{◌≡◌, Bool}
use Rattle.logbook.specs.Pages.{Book}
use Rattle.sqlite.specs.Held.{Held}
use Rattle.sqlite.specs.Store.{Ghosts}
use Rattle.prt_published.specs.Line.{Line}
use Rattle.prt_publisher.specs.Standing.{IsQuiet, Standing, Stands}
use Rattle.prt_version.specs.State.{State}

-- this is its front, this state was loaded into it, and its tables were found so to be the first of their file, or not
abbrev pub IsNamed : {T : Type 0} → Book → State → Bool → Standing T → Type 0
IsNamed book base ours_first publisher = (publisher.line.book ≡ book) × (publisher.line.base ≡ base) × (publisher.ours_first ≡ ours_first)

-- The tables are those of a named publisher with no command under way, which had published this list. Of a file that is known
-- they hold the state after the list or, once the publisher is closed, that or the state after what was stored and not published.
pub record IsReleased {S : Type 0} (g : Ghosts S) (book : Book) (base : State) (ours_first : Bool) (published : Line) (tables : Held S) : Type 0 where
  pub last : Standing (Held S)
  pub its : last.tables ≡ tables
  pub line : last.line ≡ published
  pub quiet : IsQuiet last.phase
  pub named : IsNamed book base ours_first last
  pub stands : Stands g last
