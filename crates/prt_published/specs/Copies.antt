-- The two copies of what is shown, and what each holder of a place knows of them: which front they are of.
use Rattle.std.specs.Prelude.{◌≡◌, ℕ, List, true, false}
use mathlib.Core.Option.{some}
use lib.ListN.{get_elem?}
use Rattle.logbook.specs.Pages.{Book}
use Rattle.prt_published.specs.Line.{Line}
use Rattle.prt_published.specs.declared.copies.Origin.{Origin}

abbrev pub origin_of : Book → Origin
origin_of book = record { known = true; number = book.number; log_name = book.log_name; cells_name = book.cells_name }

abbrev pub unknown : Origin
unknown = record { known = false; number = 0; log_name = 0; cells_name = 0 }

-- anyone who knows an origin knows that of what is shown
abbrev pub AreOfOne : Line → List Origin → Type 0
AreOfOne shown origins = (place : ℕ) (origin : Origin) → get_elem? origins place ≡ some origin → origin.known ≡ true → origin ≡ origin_of shown.book

-- a reader finds what is shown to be of the front that it knows
abbrev pub Finds : Origin → Line → Line → Origin → Type 0
Finds before old new after = (after ≡ before) × (before.known ≡ true → before ≡ origin_of new.book)

-- the writer knows the front of what it shows
abbrev pub Turns : Origin → Line → Line → Origin → Type 0
Turns before old new after = after ≡ origin_of new.book
