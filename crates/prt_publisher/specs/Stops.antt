-- What a stop leaves that falls into the commit of commands.
use Rattle.std.specs.Prelude.{◌≡◌, ◌⊎◌, ◌+◌, All, false, List, length}
use Rattle.sqlite.specs.Held.{Held}
use Rattle.sqlite.specs.Store.{Ghosts}
use Rattle.prt_refusals.specs.declared.refusal.StoreCall.{StoreCall}
use Rattle.prt_refusals.specs.declared.refusal.StoreCall.TheVariants.{Commit}
use Rattle.prt_command.specs.Storable.{IsStorable}
use Rattle.prt_command.specs.declared.request.Command.{Command}
use Rattle.prt_publisher.specs.Standing.{Standing}
use Rattle.prt_store.specs.Exits.{IsKnown, MayLeave}
use Rattle.prt_store.specs.Stops.{AllStoppedIn}
use Rattle.prt_version.specs.Accepted.{IsAccepted, changes_of}
use Rattle.prt_version.specs.Change.{fold}
use Rattle.prt_version.specs.State.{State}
use Rattle.prt_publisher.specs.StoreDesk.{IsKept, is_shut, published}

-- the changes that the commands make of the published state were being committed, and a stop in this store call left this connection
abbrev pub StopsIn : {S : Type 0} → Ghosts S → Standing (Held S) → List Command → StoreCall → Held S → Type 0
StopsIn g desk commands call now =
    IsAccepted (published desk) commands × AllStoppedIn g (changes_of (published desk) commands) ((published desk).count + length commands) desk.tables call now

-- Whichever store call of commands a stop falls into, of one or of those of a file, a crash leaves the state before them,
-- or the one after all of them. The latter it leaves only if the stop fell into the call that commits. If it falls into
-- none, a crash leaves the published state.
abbrev pub LeavesAState : {S : Type 0} → Ghosts S → Type 0
LeavesAState {S = S} g = (desk : Standing (Held S)) → IsKept g desk → is_shut desk ≡ false → IsKnown g desk.ours_first desk.tables → (left : State) →
    (MayLeave g desk.tables left → left ≡ published desk)
    × ((commands : List Command) (call : StoreCall) (now : Held S) → All IsStorable commands → StopsIn g desk commands call now →
    IsKnown g desk.ours_first now → MayLeave g now left
    → (left ≡ published desk) ⊎ ((call ≡ Commit) × (left ≡ fold (published desk) commands)))
