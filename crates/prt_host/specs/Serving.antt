-- Why a server ends with a fault.
use Rattle.std.specs.Prelude.{◌≡◌, ◌⊎◌, ◌||◌, ℕ, All, Bool, true, false, if◌then◌else◌, List, Option, Some, None, length}
use Rattle.logbook.specs.Pages.{Book}
use Rattle.sqlite.specs.Held.{Held}
use Rattle.sqlite.specs.Store.{Ghosts}
use Rattle.prt_refusals.specs.declared.refusal.Refusal.{Refusal}
use Rattle.prt_published.specs.Line.{Line}
use Rattle.prt_publisher.specs.Openings.{OpensOne}
use Rattle.prt_publisher.specs.Standing.{Standing}
use Rattle.prt_machine.specs.declared.database_opener.DatabaseOpener.{Ghosts as Opener}
use Rattle.prt_machine.specs.declared.database_opener.Wanted.TheVariants.{Any}
use Rattle.prt_machine.specs.Closing.{IsClosedAgain, LeavesNoneOpen}
use Rattle.prt_serve.specs.Kept.{Keeps, Work}
use Rattle.prt_serve.specs.declared.accept_loop.Accepting.{Accepting}
use Rattle.prt_serve.specs.declared.accept_loop.Accepting.TheVariants.{Failed, NoWorkers}
use Rattle.prt_serve.specs.declared.threads.ServeEnd.{ServeEnd}
use Rattle.prt_service.specs.Named.{IsReleased}
use Rattle.prt_version.specs.State.{State}
use Rattle.prt_args.specs.declared.fault.Fault.{Fault}
use Rattle.prt_args.specs.declared.fault.Fault.TheVariants.{Listener, Opening}

abbrev pub is_failed : Accepting → Bool
is_failed Failed = true
is_failed accepting = false

-- no worker is left, and none was refused its looker
abbrev pub lacks_workers : Accepting → Option Refusal → Bool
lacks_workers NoWorkers None = true
lacks_workers accepting refused = false

-- a listener is to blame: that of the sessions or of the feed
abbrev pub is_listeners : ServeEnd → Bool
is_listeners end = is_failed end.accepting || (is_failed end.feeding || lacks_workers end.accepting end.refused)

-- the fault of a worker that was refused its looker
abbrev pub looker_fault : Option Refusal → Option Fault
looker_fault None = None
looker_fault (Some reason) = Some (Opening reason)

-- why not all was served: a listener failed, or a worker was refused its looker
abbrev pub fault_of : ServeEnd → Option Fault
fault_of end = if is_listeners end then Some Listener else looker_fault end.refused

-- and what failed besides
abbrev pub further_of : ServeEnd → Option Fault
further_of end = if is_listeners end then looker_fault end.refused else None

-- the database was refused for the reason that is the fault, and is not open
abbrev pub IsNotOpened : {M S : Type 0} → Ghosts S → Opener M (Held S) → M → M → List ℕ → Fault → Type 0
IsNotOpened g by old new path fault = (reason : Refusal) × (fault ≡ Opening reason) × LeavesNoneOpen g by Any reason old new path

-- the fault is the listener's, or one with which serving can end
abbrev pub IsFaultOfServing : Fault → Type 0
IsFaultOfServing fault = (fault ≡ Listener) ⊎ ((end : ServeEnd) × (fault_of end ≡ Some fault))

-- A service left these tables at its end: they stand for the list that it had published, and the list keeps these shifts of its workers.
pub record IsLeft {S : Type 0} (g : Ghosts S) (book : Book) (base : State) (ours_first : Bool) (shifts : List Work) (tables : Held S) : Type 0 where
  pub published : Line
  pub released : IsReleased g book base ours_first published tables
  pub kept : All (Keeps published) shifts

-- A publisher was opened, and its service left these tables at its end. It had begun with the state that was opened. What its
-- workers replied `ok` in these shifts is kept.
pub record HasServed {S : Type 0} (g : Ghosts S) (first last : Held S) : Type 0 where
  pub begun : Standing (Held S)
  pub opens : OpensOne g (λ was. was ≡ first) begun
  pub shifts : List Work
  pub left : IsLeft g begun.line.book begun.line.base begun.ours_first shifts last

-- the shifts are those of so many workers
abbrev pub HasServedBy : {S : Type 0} → Ghosts S → ℕ → Held S → Held S → Type 0
HasServedBy g workers first last = (served : HasServed g first last) × (length served.shifts ≡ workers)

-- the database was opened, and is closed again as its service left it
abbrev pub IsServed : {M S : Type 0} → Ghosts S → Opener M (Held S) → M → M → List ℕ → Type 0
IsServed g by old new path = IsClosedAgain by Any (HasServed g) old new path

-- so it is, and what each of so many workers replied `ok` is kept
abbrev pub IsServedBy : {M S : Type 0} → Ghosts S → Opener M (Held S) → ℕ → M → M → List ℕ → Type 0
IsServedBy g by workers old new path = IsClosedAgain by Any (HasServedBy g workers) old new path

-- the server ended with a fault: of the opening, or of serving, and the database is closed
abbrev pub IsNotServed : {M S : Type 0} → Ghosts S → Opener M (Held S) → M → M → List ℕ → Fault → Type 0
IsNotServed g by old new path fault = IsNotOpened g by old new path fault ⊎ (IsServed g by old new path × IsFaultOfServing fault)
