-- What the exits of a publisher's calls say.
use Rattle.std.specs.Prelude.{◌≡◌, ◌⊎◌, ◌+◌, ◌≤◌, List, [], ◌∷◌, length, IsTrue, Some}
use Rattle.sqlite.specs.Held.{Held, state}
use Rattle.sqlite.specs.Store.{Ghosts}
use Rattle.prt_refusals.specs.declared.refusal.Refusal.{Refusal}
use Rattle.prt_refusals.specs.declared.refusal.Refusal.TheVariants as reason
use Rattle.prt_refusals.specs.declared.refusal.StoreCall.{StoreCall}
use Rattle.prt_refusals.specs.declared.refusal.StoreCall.TheVariants.{Commit}
use Rattle.prt_command.specs.declared.request.Command.{Command}
use Rattle.prt_published.specs.Line.{line_state}
use Rattle.prt_publisher.specs.Standing.{Standing}
use Rattle.prt_publisher.specs.declared.phase.Phase.{Phase}
use Rattle.prt_publisher.specs.declared.phase.Phase.TheVariants.{Ready, Closed}
use Rattle.prt_store.specs.Exits.{IsKnown, MayLeave, SparesOthers}
use Rattle.prt_store.specs.Made.{MakesChanges}
use Rattle.prt_store.specs.Openings.{HasDone}
use Rattle.prt_store.specs.Stored.{Stores}
use Rattle.prt_version.specs.Accepted.{IsAccepted, changes_of, refusal_all}
use Rattle.prt_version.specs.Change.{fold}
use Rattle.prt_version.specs.State.{State}

-- it is ready, and the commands are refused for nothing, each in the state after those before it
abbrev pub TakesAll : {T : Type 0} → Standing T → List Command → Type 0
TakesAll s commands = (s.phase ≡ Ready) × IsAccepted (line_state s.line) commands

-- it is ready, and the command is refused for nothing
abbrev pub Takes : {T : Type 0} → Standing T → Command → Type 0
Takes s command = TakesAll s (command ∷ [])

-- why commands are refused: the first refusal among them; or, if they are several, that memory was refused on the way to it
abbrev pub AreRefused : State → List Command → Refusal → Type 0
AreRefused published commands why = (refusal_all published commands ≡ Some why) ⊎ ((why ≡ reason.NoMemory) × (2 ≤ length commands))

-- why commands are not checked
abbrev pub AreNotChecked : Phase → State → List Command → Refusal → Type 0
AreNotChecked Closed published commands why = why ≡ reason.Closed
AreNotChecked p published commands why = AreRefused published commands why

-- why commands are not prepared
abbrev pub AreNotPrepared : Phase → State → List Command → Refusal → Type 0
AreNotPrepared Closed published commands why = why ≡ reason.Closed
AreNotPrepared p published commands why = AreRefused published commands why ⊎ (IsAccepted published commands × ((why ≡ reason.Busy) ⊎ (why ≡ reason.NoMemory)))

-- why a command is not prepared
abbrev pub IsNotPrepared : Phase → State → Command → Refusal → Type 0
IsNotPrepared phase published command why = AreNotPrepared phase published (command ∷ []) why

-- The commit failed: closed, with the old state in the tables while they can be seen. A crash leaves it too or, only if the
-- commit call failed, possibly the one after all of the commands.
pub record AreNotStored {S : Type 0} (g : Ghosts S) (old : Standing (Held S)) (commands : List Command) (why : Refusal) (new : Standing (Held S)) : Type 0 where
  pub takes : TakesAll old commands
  pub call : StoreCall
  pub why_is : why ≡ reason.StoreFailed call
  pub left : new ≡ record old { phase = Closed; commands = []; tables = new.tables }
  pub now : IsKnown g new.ours_first new.tables → IsTrue (state g new.tables).is_open → Stores (state g new.tables).now (line_state old.line)
  pub leaves : IsKnown g new.ours_first new.tables → (state : State) → MayLeave g new.tables state →
      (state ≡ line_state old.line) ⊎ ((why ≡ reason.StoreFailed Commit) × (state ≡ fold (line_state old.line) commands))

-- The front refused the publication: closed, with the commands stored.
pub record AreNotPublished {S : Type 0} (g : Ghosts S) (old : Standing (Held S)) (commands : List Command) (why : Refusal)
    (new : Standing (Held S)) : Type 0 where
  pub takes : TakesAll old commands
  pub why_is : why ≡ reason.NotPublished
  pub left : new ≡ record old { phase = Closed; commands = commands; tables = new.tables }

-- why commands are not acknowledged, and what that leaves
abbrev pub AreNotAcknowledged : {S : Type 0} → Ghosts S → Standing (Held S) → List Command → Refusal → Standing (Held S) → Type 0
AreNotAcknowledged g old commands why new =
    ((new ≡ old) × AreNotPrepared old.phase (line_state old.line) commands why) ⊎ (AreNotStored g old commands why new ⊎ AreNotPublished g old commands why new)

-- why a command is not acknowledged, and what that leaves
abbrev pub IsNotAcknowledged : {S : Type 0} → Ghosts S → Standing (Held S) → Command → Refusal → Standing (Held S) → Type 0
IsNotAcknowledged g old command why new = AreNotAcknowledged g old (command ∷ []) why new

-- the changes that the commands make of the published state ran in one transaction on the tables as they were, and what that left
-- is committed, whatever the file
abbrev pub HaveCommitted : {S : Type 0} → Ghosts S → Standing (Held S) → List Command → Held S → Type 0
HaveCommitted g old commands new =
    HasDone g (MakesChanges g (changes_of (line_state old.line) commands) ((line_state old.line).count + length commands)) old.tables (state g new).committed

-- the same of one command
abbrev pub HasCommitted : {S : Type 0} → Ghosts S → Standing (Held S) → Command → Held S → Type 0
HasCommitted g old command new = HaveCommitted g old (command ∷ []) new

-- the other tables of the file stay, if that can be seen
abbrev pub Spares : {S : Type 0} → Ghosts S → Standing (Held S) → Standing (Held S) → Type 0
Spares g old new = IsKnown g new.ours_first new.tables → (new.phase ≡ Closed → IsTrue (state g new.tables).is_open) →
    SparesOthers (state g old.tables).now (state g new.tables).now
