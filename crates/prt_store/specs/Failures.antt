-- Why the library failed a commit.
use Rattle.std.specs.Prelude.{◌≡◌, ◌⊎◌, ℕ, List, [], ◌∷◌, Option, Some, None, Err, IfErr, IsTrue, Result}
use Rattle.sqlite.specs.Held.{Held, state}
use Rattle.sqlite.specs.State.{ExecutesInside, HasCleanDisk}
use Rattle.sqlite.specs.Steps.{FailsToCommit}
use Rattle.sqlite.specs.Store.{Ghosts}
use Rattle.sqlite.specs.declared.error.Error.{Error}
use Rattle.sqlite_value.specs.Order.{Row}
use Rattle.prt_addr.specs.Word.{Word}
use Rattle.prt_refusals.specs.declared.refusal.StoreCall.{StoreCall}
use Rattle.prt_refusals.specs.declared.refusal.StoreCall.TheVariants.{Begin, Write, Count, Commit}
use Rattle.prt_rows.specs.Kept.{count_values}
use Rattle.prt_rows.specs.Statements.{insert_suppress, set_count}
use Rattle.prt_rows.specs.SuppressRow.{suppress_row}
use Rattle.prt_rows.specs.declared.suppress_row.RuleLength.{RuleLength}
use Rattle.prt_version.specs.declared.change.Change.{Change}
use Rattle.prt_store.specs.Made.{WritesRows}
use Rattle.prt_store.specs.Openings.{InTurn, Ran, begun_from}
use Rattle.prt_store.specs.Stops.{Counts, Writes, WritesEach}
use Rattle.prt_store.specs.Written.{length_put, text_of, values_of}

-- the statement was refused with this error
abbrev pub Refuses : {S : Type 0} → Ghosts S → Word → Row → Error → Held S → Held S → Type 0
Refuses g sql params error old new = ExecutesInside 0 sql params (state g old) (state g new) (Err error)

-- the statement was refused with this error or, if there is a length, ran and then the one that inserts it was refused
abbrev pub RefusesWith : {S : Type 0} → Ghosts S → Word → Row → Option RuleLength → Error → Held S → Held S → Type 0
RefusesWith g text values None error old new = Refuses g text values error old new
RefusesWith g text values (Some length) error old new =
    Refuses g text values error old new ⊎ InTurn (Ran g text values) (Refuses g insert_suppress (suppress_row length) error) old new

-- the rows of the change were not written, for this error
abbrev pub RefusesRows : {S : Type 0} → Ghosts S → Change → Error → Held S → Held S → Type 0
RefusesRows g made = RefusesWith g (text_of made) (values_of made) (length_put made)

-- inside a transaction, what failed did so for this
abbrev pub FailsInside : {S : Type 0} → Ghosts S → (Error → Held S → Held S → Type 0) → Held S → Held S → Result ℕ Error → Type 0
FailsInside g Fails old new result = HasCleanDisk (state g new) → IsTrue (state g old).in_transaction → IfErr result (λ error. Fails error old new)

-- The library's error of the call in which a commit failed, and that left this connection; none of a commit that was not begun.
abbrev pub FailsFor : {S : Type 0} → Ghosts S → Change → ℕ → Held S → StoreCall → Held S → Option Error → Type 0
FailsFor g made number old Begin left failure = failure ≡ None
FailsFor {S = S} g made number old Write left failure =
    (error : Error) × (failure ≡ Some error) × (HasCleanDisk (state g left) → (refused : Held S) × RefusesRows g made error (begun_from old) refused)
FailsFor {S = S} g made number old Count left failure =
    (error : Error) × (failure ≡ Some error)
    × (HasCleanDisk (state g left) →
    (written : Held S) × Writes g made old written × (refused : Held S) × Refuses g set_count (count_values number) error written refused)
FailsFor {S = S} g made number old Commit left failure =
    (error : Error) × (failure ≡ Some error)
    × (HasCleanDisk (state g left) →
    (written : Held S) × Writes g made old written × (counted : Held S) × Counts g number written counted
    × FailsToCommit (state g counted) (state g left) error)

-- ---- several changes

-- the rows of one of the changes were not written, for this error, after those of the changes before it
abbrev pub RefusesOneOf : {S : Type 0} → Ghosts S → List Change → Error → Held S → Held S → Type 0
RefusesOneOf g [] error old new = ⊥
RefusesOneOf g (made ∷ more) error old new = RefusesRows g made error old new ⊎ InTurn (WritesRows g made) (RefusesOneOf g more error) old new

-- the same as FailsFor, of several changes
abbrev pub AllFailFor : {S : Type 0} → Ghosts S → List Change → ℕ → Held S → StoreCall → Held S → Option Error → Type 0
AllFailFor g changes number old Begin left failure = failure ≡ None
AllFailFor {S = S} g changes number old Write left failure =
    (error : Error) × (failure ≡ Some error) × (HasCleanDisk (state g left) → (refused : Held S) × RefusesOneOf g changes error (begun_from old) refused)
AllFailFor {S = S} g changes number old Count left failure =
    (error : Error) × (failure ≡ Some error)
    × (HasCleanDisk (state g left) →
    (written : Held S) × WritesEach g changes old written × (refused : Held S) × Refuses g set_count (count_values number) error written refused)
AllFailFor {S = S} g changes number old Commit left failure =
    (error : Error) × (failure ≡ Some error)
    × (HasCleanDisk (state g left) →
    (written : Held S) × WritesEach g changes old written × (counted : Held S) × Counts g number written counted
    × FailsToCommit (state g counted) (state g left) error)
