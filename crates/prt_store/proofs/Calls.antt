-- The two statements of a commit, one after the other.
use Rattle.std.proofs.Common.{◌≡◌, ℕ, List, false, Ok, Err, Result}
use Rattle.std.specs.Result.{is_err}
use Rattle.sqlite.specs.Held.{Held}
use Rattle.sqlite.specs.Store.{Ghosts}
use Rattle.sqlite.specs.declared.error.Error.{Error}
use Rattle.prt_rows.specs.Kept.{count_values}
use Rattle.prt_rows.specs.Statements.{set_count}
use Rattle.prt_version.specs.declared.change.Change.{Change}
use Rattle.prt_store.specs.Made.{MakesChanges, WritesAll}
use Rattle.prt_store.specs.Openings.{Ran, Works}
use Rattle.prt_store.specs.Written.{CommitsNothing, RunsInside}
use Rattle.prt_store.proofs.Transactions.{statement_works, works_then}

-- if all rows were written, the last statement ends what the transaction does
pub makes_changes : {S : Type 0} (g : Ghosts S) (changes : List Change) (number : ℕ) (begun mid last : Held S) (first second : Result ℕ Error) → is_err first ≡ false → Works g (WritesAll g changes) begun mid first → RunsInside g set_count (count_values number) mid last second
    → CommitsNothing g mid last → Works g (MakesChanges g changes number) begun last second
makes_changes g changes number begun mid last (Ok n) second fine writes counts quiet_too =
    works_then g (WritesAll g changes) (Ran g set_count (count_values number)) begun mid last n second writes (statement_works g set_count (count_values number) mid last second counts quiet_too)
makes_changes g changes number begun mid last (Err e) second fine writes counts quiet_too = absurd (let bad = fine in cc)
