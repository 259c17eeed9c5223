-- The calls that a commit makes in turn, and what is left if it is stopped in one of them.
use Rattle.std.specs.Prelude.{◌≡◌, ◌⊎◌, ℕ, List}
use Rattle.std.specs.List.{AllByRecursion as Each}
use Rattle.sqlite.specs.Held.{Held, state}
use Rattle.sqlite.specs.State.{HasCleanDisk, Survives}
use Rattle.sqlite.specs.Store.{Ghosts}
use Rattle.sqlite.specs.Tree.{Trees}
use Rattle.sqlite_value.specs.Order.{Row}
use Rattle.prt_addr.specs.Word.{Word}
use Rattle.prt_refusals.specs.declared.refusal.StoreCall.{StoreCall}
use Rattle.prt_refusals.specs.declared.refusal.StoreCall.TheVariants.{Begin, Write, Count, Commit}
use Rattle.prt_rows.specs.Kept.{count_values}
use Rattle.prt_rows.specs.Statements.{set_count}
use Rattle.prt_version.specs.Change.{put}
use Rattle.prt_version.specs.State.{State}
use Rattle.prt_version.specs.declared.change.Change.{Change}
use Rattle.prt_store.specs.Adopted.{IsAtRest}
use Rattle.prt_store.specs.Made.{WritesAll, WritesRows}
use Rattle.prt_store.specs.Next.{AreNext, IsNext, MakesNext, put_all}
use Rattle.prt_store.specs.Openings.{Ran, begun_from}
use Rattle.prt_store.specs.Stored.{Stores}
use Rattle.prt_store.specs.Written.{CommitsNothing, IsTyped}

-- the statement ran, and nothing was committed
abbrev pub RanInside : {S : Type 0} → Ghosts S → Word → Row → Held S → Held S → Type 0
RanInside g sql params old new = Ran g sql params old new × CommitsNothing g old new

-- in a transaction that had just begun the rows of the change were written, with values in the ranges of their columns, and nothing was committed
abbrev pub Writes : {S : Type 0} → Ghosts S → Change → Held S → Held S → Type 0
Writes g made old written = IsTyped made × (WritesRows g made (begun_from old) written × CommitsNothing g (begun_from old) written)

-- the statement that sets the count ran
abbrev pub Counts : {S : Type 0} → Ghosts S → ℕ → Held S → Held S → Type 0
Counts g number = RanInside g set_count (count_values number)

-- a crash finds what it could find before, or what the transaction showed
abbrev pub MayCommit : {S : Type 0} → Ghosts S → Held S → Held S → Type 0
MayCommit g counted left = Survives (state g counted) (state g left) (λ trees. trees ≡ (state g counted).now.trees)

-- the calls of a commit, each on the connection that the one before it left
pub record MakesCalls {S : Type 0} (g : Ghosts S) (made : Change) (number : ℕ) (old new : Held S) : Type 0 where
  pub written : Held S
  pub counted : Held S
  pub write : Writes g made old written
  pub count : Counts g number written counted
  pub commit : MayCommit g counted new × ((state g new).committed ≡ (state g counted).now)

-- A commit was stopped in this call, or this call failed, and that left this connection. The calls before it were made; of the
-- call itself nothing is said but what it may have committed.
abbrev pub StoppedIn : {S : Type 0} → Ghosts S → Change → ℕ → Held S → StoreCall → Held S → Type 0
StoppedIn g made number old Begin left = left ≡ old
StoppedIn g made number old Write left = CommitsNothing g (begun_from old) left
StoppedIn {S = S} g made number old Count left = (written : Held S) × Writes g made old written × CommitsNothing g written left
StoppedIn {S = S} g made number old Commit left =
    (written : Held S) × Writes g made old written × (counted : Held S) × Counts g number written counted × MayCommit g counted left

-- Whichever call a commit is stopped in, a crash finds the rows as they were before it, or those of the next state. The
-- latter it finds only if the commit was stopped in the call that commits.
abbrev pub LeavesAState : {S : Type 0} → Ghosts S → Type 0
LeavesAState {S = S} g = (before : State) (made : Change) (number : ℕ) (old left : Held S) (call : StoreCall) → IsNext before made number →
    Stores (state g old).now before → IsAtRest g old
    → StoppedIn g made number old call left → HasCleanDisk (state g left) → (trees : Trees) → (state g left).may_leave trees
    → (trees ≡ (state g old).now.trees)
    ⊎ ((call ≡ Commit) × MakesNext (state g old).now (put before made) (record { schema = (state g old).now.schema; trees = trees }))

-- ---- several changes

-- in a transaction that had just begun the rows of each change were written, with values in the ranges of their columns, and nothing was committed
abbrev pub WritesEach : {S : Type 0} → Ghosts S → List Change → Held S → Held S → Type 0
WritesEach g changes old written = Each IsTyped changes × (WritesAll g changes (begun_from old) written × CommitsNothing g (begun_from old) written)

-- the calls of the commit of several changes, each on the connection that the one before it left
pub record MakesAllCalls {S : Type 0} (g : Ghosts S) (changes : List Change) (number : ℕ) (old new : Held S) : Type 0 where
  pub written : Held S
  pub counted : Held S
  pub write : WritesEach g changes old written
  pub count : Counts g number written counted
  pub commit : MayCommit g counted new × ((state g new).committed ≡ (state g counted).now)

-- the same of several changes; in the call that writes, of the writes before nothing is said but that they committed nothing
abbrev pub AllStoppedIn : {S : Type 0} → Ghosts S → List Change → ℕ → Held S → StoreCall → Held S → Type 0
AllStoppedIn g changes number old Begin left = left ≡ old
AllStoppedIn g changes number old Write left = CommitsNothing g (begun_from old) left
AllStoppedIn {S = S} g changes number old Count left = (written : Held S) × WritesEach g changes old written × CommitsNothing g written left
AllStoppedIn {S = S} g changes number old Commit left =
    (written : Held S) × WritesEach g changes old written × (counted : Held S) × Counts g number written counted × MayCommit g counted left

-- Whichever call of a commit of several changes a stop falls into, a crash finds the rows as they were or, in the call that
-- commits alone, those of the state after all of them.
abbrev pub LeavesAllOrNone : {S : Type 0} → Ghosts S → Type 0
LeavesAllOrNone {S = S} g = (before : State) (changes : List Change) (number : ℕ) (old left : Held S) (call : StoreCall) →
    AreNext before changes number → Stores (state g old).now before → IsAtRest g old
    → AllStoppedIn g changes number old call left → HasCleanDisk (state g left) → (trees : Trees) → (state g left).may_leave trees
    → (trees ≡ (state g old).now.trees)
    ⊎ ((call ≡ Commit) × MakesNext (state g old).now (put_all before changes) (record { schema = (state g old).now.schema; trees = trees }))
