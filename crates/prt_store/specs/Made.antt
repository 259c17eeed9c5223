-- What the transaction of a commit does.
use Rattle.std.specs.Prelude.{◌≡◌, ℕ, List, [], ◌∷◌, Option, Some, None}
use Rattle.sqlite.specs.Held.{Held}
use Rattle.sqlite.specs.Store.{Ghosts}
use Rattle.sqlite_value.specs.Order.{Row}
use Rattle.prt_addr.specs.Word.{Word}
use Rattle.prt_rows.specs.Kept.{count_values}
use Rattle.prt_rows.specs.Statements.{insert_suppress, set_count}
use Rattle.prt_rows.specs.SuppressRow.{suppress_row}
use Rattle.prt_rows.specs.declared.suppress_row.RuleLength.{RuleLength}
use Rattle.prt_version.specs.declared.change.Change.{Change}
use Rattle.prt_store.specs.Openings.{InTurn, Ran}
use Rattle.prt_store.specs.Written.{length_put, text_of, values_of}

-- the statement ran and, if there is a length, then the one that inserts it
abbrev pub RunsWith : {S : Type 0} → Ghosts S → Word → Row → Option RuleLength → Held S → Held S → Type 0
RunsWith g text values None = Ran g text values
RunsWith g text values (Some length) = InTurn (Ran g text values) (Ran g insert_suppress (suppress_row length))

-- the rows of the change were written
abbrev pub WritesRows : {S : Type 0} → Ghosts S → Change → Held S → Held S → Type 0
WritesRows g made = RunsWith g (text_of made) (values_of made) (length_put made)

-- the change was made, and then the count set
abbrev pub MakesChange : {S : Type 0} → Ghosts S → Change → ℕ → Held S → Held S → Type 0
MakesChange g made number = InTurn (WritesRows g made) (Ran g set_count (count_values number))

-- ---- several changes

-- the rows of each change were written, one change after the other
abbrev pub WritesAll : {S : Type 0} → Ghosts S → List Change → Held S → Held S → Type 0
WritesAll g [] old new = new ≡ old
WritesAll g (made ∷ more) old new = InTurn (WritesRows g made) (WritesAll g more) old new

-- the changes were made, and then the count set, once
abbrev pub MakesChanges : {S : Type 0} → Ghosts S → List Change → ℕ → Held S → Held S → Type 0
MakesChanges g changes number = InTurn (WritesAll g changes) (Ran g set_count (count_values number))
