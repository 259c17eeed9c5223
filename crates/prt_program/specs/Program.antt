-- What the program does: it runs the session, the check or the replay that its words ask for, or it says why it does not.
use Rattle.std.specs.Prelude.{◌≡◌, ◌⊎◌, ℕ, Bool, true, false, List, Option, Some, None}
use Rattle.prt_addr.specs.Word.{Word}
use Rattle.prt_refusals.specs.declared.refusal.Refusal.{Refusal}
use Rattle.prt_program.specs.Databases.{OpensAndCloses}
use Rattle.prt_program.specs.Faults.{database_of}
use Rattle.prt_args.specs.Faults.{IsStatusOf}
use Rattle.prt_args.specs.Invocation.{Invocation, batch, check, replay}
use Rattle.prt_replay.specs.Replay.{ReplayIs}
use Rattle.prt_session.specs.Atomic.{AtomicIs}
use Rattle.prt_session.specs.Check.{ChecksLines}
use Rattle.prt_session.specs.Desk.{Befalls, DeskState, IsNoMemory, Mishap, request_turn, settled}
use Rattle.prt_session.specs.Open.{IsOpenOn}
use Rattle.prt_session.specs.Run.{RunIs}
use Rattle.prt_session.specs.Stands.{StandsForSome}
use Rattle.prt_version.specs.State.{State, opening_state}
use Rattle.prt_program.specs.declared.next.Next.{Next}
use Rattle.prt_program.specs.declared.next.Next.TheVariants.{Ask, Exit, Serve, Submit}
use Rattle.prt_replies.specs.declared.script_end.ScriptEnd.{ScriptEnd}
use Rattle.prt_args.specs.declared.asking.Asked.{Asked}
use Rattle.prt_args.specs.declared.serving.ServeArgs.{ServeArgs}
use Rattle.prt_args.specs.declared.task.Submitting.{Submitting}
use Rattle.prt_args.specs.declared.task.Mode.{Mode}
use Rattle.prt_args.specs.declared.task.Mode.TheVariants.{InTurn, Together}

-- 3 for a fault, else 1 for a refused line, else 0
abbrev pub status_by : Option Refusal → Bool → ℕ
status_by (Some fault) refused = 3
status_by None true = 1
status_by None false = 0

abbrev pub exit_status : ScriptEnd → ℕ
exit_status end = status_by end.fault end.refused

-- What a run had to read, and what its writer had before it and has after it.
pub record Streams : Type 0 where
  pub input : Option (List ℕ)
  pub output_before : Option (List ℕ)
  pub output_after : Option (List ℕ)

abbrev pub streams_of : (input output_before output_after : Option (List ℕ)) → Streams
streams_of input output_before output_after = record { input = input; output_before = output_before; output_after = output_after }

-- what a session made of a desk: line by line, or all commands together
abbrev pub SessionIs : (may : Mishap → Type 0) → Mode → (before after : DeskState) → (reader0 reader writer0 writer : Option (List ℕ)) → ScriptEnd → Type 0
SessionIs may (InTurn on_refusal) before after reader0 reader writer0 writer end =
    RunIs request_turn (Befalls may) on_refusal before after reader0 reader writer0 writer end
SessionIs may Together before after reader0 reader writer0 writer end = AtomicIs may before after reader0 reader writer0 writer end

-- A session that begins with this state was run, and this is its exit status. After it the desk stands for something, and for
-- nothing but what the session left.
pub record RunsOn {X : Type 0} (stands : X → DeskState → Type 0) (may : Mishap → Type 0) (mode : Mode) (opened : State) (desk : X)
    (streams : Streams) (status : ℕ) : Type 0 where
  pub reader : Option (List ℕ)
  pub end : ScriptEnd
  pub left : StandsForSome stands desk
  pub run : (after : DeskState) → stands desk after →
      SessionIs may mode (settled opened) after streams.input reader streams.output_before streams.output_after end
  pub status_is : status ≡ exit_status end

-- the session, which began with the opened state, left this one stored
abbrev pub SessionLeaves : (may : Mishap → Type 0) → Mode → (opened : State) → Streams → (reader : Option (List ℕ)) → ScriptEnd → (left : State) → Type 0
SessionLeaves may mode opened streams reader end left =
    (after : DeskState) × SessionIs may mode (settled opened) after streams.input reader streams.output_before streams.output_after end
    × (after.stored ≡ left)

-- A session was run over the database at a path. The desk that was opened stood for a state that may be there, the one that was
-- closed stands for what the session left. Each state that a later opening may find is one that the session left stored. Nothing
-- else was done to databases.
pub record RunsAt {D X : Type 0} (holds : D → Word → State → Type 0) (opens : D → D → Word → X → Type 0) (closed : D → D → X → Type 0)
    (leaves : X → State → Type 0) (stands : X → DeskState → Type 0) (keeps : X → X → Type 0) (may : Mishap → Type 0)
    (old new : D) (path : Word) (mode : Mode) (streams : Streams) (status : ℕ) : Type 0 where
  pub opened : State
  pub first : X
  pub last : X
  pub is_held : holds old path opened
  pub is_open : IsOpenOn stands first opened
  pub database : OpensAndCloses opens closed old new path first last
  pub run : RunsOn stands may mode opened last streams status
  pub kept : keeps first last
  pub durable : (left : State) → leaves last left → SessionLeaves may mode opened streams run.reader run.end left

-- a fact of a session: of its mode, its streams and its exit status
abbrev pub SessionFact : Type 1
SessionFact = Mode → Streams → ℕ → Type 0

-- a session over a new database in memory, which stays open, or over the one at this path
abbrev pub RunsBatch : (Word → SessionFact) → Option Word → SessionFact
RunsBatch RunAt None mode streams status = (left : State) × RunsOn (λ desk after. after ≡ settled desk) IsNoMemory mode opening_state left streams status
RunsBatch RunAt (Some path) mode streams status = RunAt path mode streams status

-- no database was touched, or the one at this path was refused
abbrev pub IsUntouched : {D : Type 0} → (refuses : D → D → Word → Refusal → Type 0) → Option Word → D → D → Type 0
IsUntouched refuses None old new = new ≡ old
IsUntouched refuses (Some path) old new = (new ≡ old) ⊎ ((reason : Refusal) × refuses old new path reason)

-- A check was run, and this is its exit status.
pub record RunsCheck (streams : Streams) (status : ℕ) : Type 0 where
  pub reader : Option (List ℕ)
  pub end : ScriptEnd
  pub run : ChecksLines streams.input reader streams.output_before streams.output_after end
  pub status_is : status ≡ exit_status end

-- A replay was run, and this is its exit status.
pub record RunsReplay (streams : Streams) (status : ℕ) : Type 0 where
  pub end : ScriptEnd
  pub run : ReplayIs streams.input streams.output_before streams.output_after end
  pub status_is : status ≡ exit_status end

-- a run over a file: the input, or the file that was opened at a path
abbrev pub RunsOver : {File : Type 0} → (opens : Word → File → Type 0) → (File → Option (List ℕ)) → (Streams → ℕ → Type 0) → Option Word → Streams → ℕ → Type 0
RunsOver opens bytes Run None streams status = Run streams status
RunsOver {File} opens bytes Run (Some path) streams status = (file : File) × opens path file × Run (record streams { input = bytes file }) status

-- what the words ask for was run
abbrev pub Runs : {File : Type 0} → (opens : Word → File → Type 0) → (File → Option (List ℕ)) → (Word → SessionFact) → Invocation → Streams → ℕ → Type 0
Runs opens bytes RunAt (batch script) streams status = RunsOver opens bytes (RunsBatch RunAt script.database script.mode) script.file streams status
Runs opens bytes RunAt (check file) streams status = RunsOver opens bytes RunsCheck file streams status
Runs opens bytes RunAt (replay file) streams status = RunsOver opens bytes RunsReplay file streams status
Runs opens bytes RunAt asked streams status = ⊥

-- The words ask for help or for the version. No database was touched.
abbrev pub Tells : {D : Type 0} → D → D → Invocation → ℕ → Type 0
Tells old new asked status = IsStatusOf asked status × (status ≡ 0) × (new ≡ old)

-- The words are bad. Nothing was written, and no database was touched.
abbrev pub IsMisused : {D : Type 0} → D → D → Invocation → Option (List ℕ) → Option (List ℕ) → ℕ → Type 0
IsMisused old new asked writer0 writer status = IsStatusOf asked status × (status ≡ 2) × (writer ≡ writer0) × (new ≡ old)

-- Memory was refused, or the file or the database that is asked for could not be opened. Nothing was written.
abbrev pub IsStopped : {D : Type 0} → (refuses : D → D → Word → Refusal → Type 0) → D → D → Invocation → Option (List ℕ) → Option (List ℕ) → ℕ → Type 0
IsStopped refuses old new asked writer0 writer status = (status ≡ 3) × (writer ≡ writer0) × IsUntouched refuses (database_of asked) old new

-- Nothing was run.
abbrev pub RunsNothing : {D : Type 0} → (refuses : D → D → Word → Refusal → Type 0) → D → D → Invocation → Option (List ℕ) → Option (List ℕ) → ℕ → Type 0
RunsNothing refuses old new asked writer0 writer status =
    Tells old new asked status
    ⊎ (IsMisused old new asked writer0 writer status ⊎ IsStopped refuses old new asked writer0 writer status)

-- the input is read for a run over it alone
abbrev pub LeavesInputFor : Option Word → Option (List ℕ) → Option (List ℕ) → Type 0
LeavesInputFor None input0 input = Unit {0}
LeavesInputFor (Some path) input0 input = input ≡ input0

abbrev pub LeavesInput : Invocation → Option (List ℕ) → Option (List ℕ) → Type 0
LeavesInput (batch script) input0 input = LeavesInputFor script.file input0 input
LeavesInput (check file) input0 input = LeavesInputFor file input0 input
LeavesInput (replay file) input0 input = LeavesInputFor file input0 input
LeavesInput asked input0 input = input ≡ input0

-- databases are touched for a run over one alone
abbrev pub LeavesDatabases : {D : Type 0} → Invocation → D → D → Type 0
LeavesDatabases asked old new = database_of asked ≡ None → new ≡ old

-- of the exit status, if the program has one
abbrev pub IfExit : (ℕ → Type 0) → Next → Type 0
IfExit holds (Exit status) = holds status
IfExit holds (Serve serving) = Unit {0}
IfExit holds (Submit submitting) = Unit {0}
IfExit holds (Ask asked) = Unit {0}

-- of the sessions that are to be served, if they are asked for
abbrev pub IfServe : (ServeArgs → Type 0) → Next → Type 0
IfServe holds (Exit status) = Unit {0}
IfServe holds (Serve serving) = holds serving
IfServe holds (Submit submitting) = Unit {0}
IfServe holds (Ask asked) = Unit {0}

-- of the script that goes to a server, if one does
abbrev pub IfSubmit : (Submitting → Type 0) → Next → Type 0
IfSubmit holds (Exit status) = Unit {0}
IfSubmit holds (Serve serving) = Unit {0}
IfSubmit holds (Submit submitting) = holds submitting
IfSubmit holds (Ask asked) = Unit {0}

-- of the question, if one is asked
abbrev pub IfAsk : (Asked → Type 0) → Next → Type 0
IfAsk holds (Exit status) = Unit {0}
IfAsk holds (Serve serving) = Unit {0}
IfAsk holds (Submit submitting) = Unit {0}
IfAsk holds (Ask asked) = holds asked
