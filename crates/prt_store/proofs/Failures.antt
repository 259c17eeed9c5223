-- Why a commit failed.
use Rattle.std.proofs.Common.{◌≡◌, ℕ, List, ◌∷◌, Ok, Err, Result, Some, inr, subst, arith}
use Rattle.sqlite.specs.Held.{Held, state}
use Rattle.sqlite.specs.State.{HasCleanDisk}
use Rattle.sqlite.specs.Store.{Ghosts}
use Rattle.sqlite.specs.declared.error.Error.{Error}
use Rattle.sqlite_value.specs.Order.{Row}
use Rattle.prt_addr.specs.Word.{Word}
use Rattle.prt_rows.specs.Statements.{insert_suppress}
use Rattle.prt_rows.specs.SuppressRow.{suppress_row}
use Rattle.prt_rows.specs.declared.suppress_row.RuleLength.{RuleLength}
use Rattle.prt_version.specs.declared.change.Change.{Change}
use Rattle.prt_store.specs.Failures.{FailsInside, RefusesOneOf, RefusesWith}
use Rattle.prt_store.specs.Made.{WritesRows}
use Rattle.prt_store.specs.Openings.{Ran, Works, begun_from}
use Rattle.prt_store.specs.Written.{CommitsNothing, RunsInside}

-- the statement ran, and the one that inserts the length may be refused
pub refuses_then : {S : Type 0} (g : Ghosts S) (sql : Word) (params : Row) (length : RuleLength) (old mid new : Held S) (count : ℕ) (result : Result ℕ Error) → Works g (Ran g sql params) old mid (Ok count)
    → RunsInside g insert_suppress (suppress_row length) mid new result → CommitsNothing g mid new → FailsInside g (RefusesWith g sql params (Some length)) old new result
refuses_then g sql params length old mid new count (Ok n) one runs quiet clean inside = tt
refuses_then g sql params length old mid new count (Err error) one runs quiet clean inside =
    let before : HasCleanDisk (state g mid) = omega (arith, quiet.clean) in
    let first = one.done before inside in
    inr (mid, first.0, runs clean first.1)

-- the rows of a change were written, and those of one of the others may be refused
pub fails_then : {S : Type 0} (g : Ghosts S) (made : Change) (more : List Change) (old mid new : Held S) (count : ℕ) (result : Result ℕ Error) → Works g (WritesRows g made) old mid (Ok count) → CommitsNothing g mid new → FailsInside g (RefusesOneOf g more) mid new result
    → FailsInside g (RefusesOneOf g (made ∷ more)) old new result
fails_then g made more old mid new count (Ok n) one quiet fails clean inside = tt
fails_then g made more old mid new count (Err error) one quiet fails clean inside =
    let before : HasCleanDisk (state g mid) = omega (arith, quiet.clean) in
    let first = one.done before inside in
    inr (mid, first.0, fails clean first.1)

-- what failed in a transaction that had just begun
pub fails_begun : {S : Type 0} (g : Ghosts S) (Fails : Error → Held S → Held S → Type 0) (old begun new : Held S) (error : Error) → begun ≡ begun_from old → FailsInside g Fails begun new (Err error) → HasCleanDisk (state g new) → Fails error (begun_from old) new
fails_begun g Fails old begun new error was fails clean = subst (λ h. Fails error h new) was (fails clean (rw was))
