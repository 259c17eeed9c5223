-- What contracts see of a publisher.
use Rattle.std.specs.Prelude.{◌≡◌, ◌⊎◌, ℕ, IsTrue, Bool, List, [], ◌∷◌, length, refl}
use Rattle.std.specs.Coded.{Coded, code_by, coded×, coded_bool, coded_list}
use Rattle.sqlite.specs.Held.{Held, state}
use Rattle.sqlite.specs.Store.{Ghosts}
use Rattle.sqlite.specs.Tree.{Trees}
use Rattle.prt_command.specs.declared.request.Command.{Command}
use Rattle.prt_command.specs.contracts.request.Command as command
use Rattle.prt_published.specs.Line.{Line, line_state}
use Rattle.prt_published.specs.contracts.known.Known as known
use Rattle.prt_publisher.specs.contracts.phase.Phase as phase
use Rattle.prt_publisher.specs.declared.phase.Phase.{Phase}
use Rattle.prt_publisher.specs.declared.phase.Phase.TheVariants.{Ready, Committed, Published, Closed}
use Rattle.prt_store.specs.Exits.{IsKnown, IsStored, Spells}
use Rattle.prt_store.specs.Stored.{Stores}
use Rattle.prt_version.specs.Accepted.{IsAccepted}
use Rattle.prt_version.specs.Change.{fold}
use Rattle.prt_version.specs.State.{State}

-- The phase, the published list, the commands that are under way together or, once it is closed, those that are stored and not
-- published, whether the tables were found to be the first of their file, in format 2, and the connection to them.
pub record Standing (T : Type 0) : Type 0 where
  pub phase : Phase
  pub line : Line
  pub commands : List Command
  pub ours_first : Bool
  pub tables : T

abbrev pub standing_code : {T : Type 0} → Coded T → Coded (Standing T)
standing_code {T} tables =
    code_by (Phase × (Line × (List Command × (Bool × T))))
    (coded× phase.the_row.coded (coded× known.the_row.coded (coded× (coded_list command.the_row.coded) (coded× coded_bool tables))))
    (λ s. (s.phase, (s.line, (s.commands, (s.ours_first, s.tables)))))
    (λ p. record { phase = p.0; line = p.1.0; commands = p.1.1.0; ours_first = p.1.1.1.0; tables = p.1.1.1.1 })
    (λ _. refl)

-- no command is under way
abbrev pub IsQuiet : Phase → Type 0
IsQuiet Ready = Unit {0}
IsQuiet Closed = Unit {0}
IsQuiet phase = ⊥

-- how many published commands are still to be noted, with the version after them
abbrev pub unnoted : Phase → List Command → ℕ
unnoted Published commands = length commands
unnoted phase commands = 0

-- ---- the tables beside the published state

-- What a failed commit leaves: the tables encode the published state while they can be seen. Whatever a crash leaves
-- encodes it or the one after the commands that were under way, the same ones each time, which it refuses for nothing.
pub record IsLeft {S : Type 0} (g : Ghosts S) (tables : Held S) (published : State) : Type 0 where
  pub now : IsTrue (state g tables).is_open → Stores (state g tables).now published
  pub commands : List Command
  pub accepted : IsAccepted published commands
  pub durable : (trees : Trees) → (state g tables).may_leave trees →
      (stored : State) × Spells trees stored × ((stored ≡ published) ⊎ (stored ≡ fold published commands))

-- what the tables hold, and what a crash leaves of them: the published state; from the commit on the one after the commands
abbrev pub Agrees : {S : Type 0} → Ghosts S → Phase → List Command → State → Held S → Type 0
Agrees g Committed commands published tables = IsStored g tables (fold published commands)
Agrees g Closed [] published tables = IsLeft g tables published
Agrees g Closed (command ∷ commands) published tables = IsStored g tables (fold published (command ∷ commands))
Agrees g phase commands published tables = IsStored g tables published

-- what is in the tables of a file that is known
abbrev pub Stands : {S : Type 0} → Ghosts S → Standing (Held S) → Type 0
Stands g s = IsKnown g s.ours_first s.tables → Agrees g s.phase s.commands (line_state s.line) s.tables
