-- What becomes of the databases of a machine, from an opening to the closing.
use Rattle.std.specs.Prelude.{◌≡◌, ◌≢◌, ◌⊎◌, ℕ, List}
use Rattle.sqlite.specs.Held.{Held, state}
use Rattle.sqlite.specs.State.{Survives}
use Rattle.sqlite.specs.Store.{Ghosts}
use Rattle.prt_refusals.specs.declared.refusal.Refusal.{Refusal}
use Rattle.prt_refusals.specs.declared.refusal.Refusal.TheVariants.{Damaged, OpenFailed}
use Rattle.prt_publisher.specs.Openings.{HasRefused}
use Rattle.prt_machine.specs.declared.database_opener.DatabaseOpener.{Ghosts as Opener}
use Rattle.prt_machine.specs.declared.database_opener.Wanted.{Wanted}

-- A connection that was refused for this reason was not touched. If it was damaged its rows were read, and a crash leaves what
-- it could leave before.
abbrev pub IsOnlyRead : {S : Type 0} → Ghosts S → Refusal → Held S → Held S → Type 0
IsOnlyRead g reason old new = (reason ≢ Damaged → new ≡ old) × ((new ≡ old) ⊎ Survives (state g old) (state g new) (λ _. ⊥))

-- The database at a path, if it is one that is wanted, was opened as the first connection, and closed as the last, with this
-- between them. Nothing else was done to databases.
pub record IsClosedAgain {M S : Type 0} (by : Opener M (Held S)) (wanted : Wanted) (Made : Held S → Held S → Type 0) (old new : M)
    (path : List ℕ) : Type 0 where
  pub between : M
  pub first : Held S
  pub last : Held S
  pub is_opened : by.opens wanted old between path first
  pub made : Made first last
  pub is_closed : by.closes between new last

-- a connection was refused for this reason, and then only read
abbrev pub IsRefusedFor : {S : Type 0} → Ghosts S → Refusal → Held S → Held S → Type 0
IsRefusedFor {S} g reason first last = (left : Held S) × HasRefused g first left reason × IsOnlyRead g reason left last

-- No database is open, for this reason: the machine gave none that is wanted, or what it gave was refused and closed again.
abbrev pub LeavesNoneOpen : {M S : Type 0} → Ghosts S → Opener M (Held S) → Wanted → Refusal → M → M → List ℕ → Type 0
LeavesNoneOpen g by wanted reason old new path =
    ((reason ≡ OpenFailed) × by.refuses wanted old new path) ⊎ IsClosedAgain by wanted (IsRefusedFor g reason) old new path
