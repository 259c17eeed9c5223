-- What a run of the program does to the databases of a machine.
use Rattle.std.specs.Prelude.{◌≡◌, ◌≢◌, ◌⊎◌, ℕ, List, Option}
use Rattle.sqlite.specs.Held.{Held, state}
use Rattle.sqlite.specs.State.{HasCleanDisk}
use Rattle.sqlite.specs.Store.{Ghosts}
use Rattle.prt_addr.specs.Word.{Word}
use Rattle.prt_refusals.specs.declared.refusal.Refusal.{Refusal}
use Rattle.prt_publisher.specs.Files.{IsWhatWasLeft}
use Rattle.prt_publisher.specs.StoreDesk.{IsStoreMishap, MayBeStored}
use Rattle.prt_program.specs.Program.{IsMisused, IsStopped, LeavesDatabases, Runs, SessionLeaves, Streams, Tells}
use Rattle.prt_publisher.specs.Openings.{HasOpened}
use Rattle.prt_rows.specs.Format.{BeginsFormat2}
use Rattle.prt_store.specs.Exits.{IsKnown}
use Rattle.prt_version.specs.State.{State}
use Rattle.prt_machine.specs.declared.database_opener.DatabaseOpener.{Ghosts as Opener}
use Rattle.prt_args.specs.Read.{IsQuestionIn, IsServiceIn}
use Rattle.prt_args.specs.Tasks.{IsServing}
use Rattle.prt_args.specs.Invocation.{Invocation, Submission, ask, serve, submit}
use Rattle.prt_args.specs.Places.{IsPlace}
use Rattle.prt_args.specs.declared.fault.TheConstants.{DONE, FAULT}
use Rattle.prt_args.specs.declared.asking.Asked.{Asked}
use Rattle.prt_args.specs.declared.serving.ServeArgs.{ServeArgs}
use Rattle.prt_args.specs.declared.server_place.ServerPlace.{ServerPlace}
use Rattle.prt_args.specs.declared.task.Mode.{Mode}
use Rattle.prt_machine.specs.Closing.{LeavesNoneOpen}
use Rattle.prt_questions.specs.Done.{IsDone, IsDoneAtMost, IsFound, IsFoundClosed, IsFoundUnreadable}
use Rattle.prt_host.specs.Sessions.{RunsOverMachine}
use Rattle.prt_questions.specs.Sources.{Sources}
use Rattle.prt_questions.specs.Submitting.{IsAllMade, IsSubmitted}
use Rattle.prt_machine.specs.declared.database_opener.Wanted.TheVariants.{Any}
use Rattle.prt_host.specs.Serving.{HasServed, IsServed, IsServedBy}
use Rattle.prt_questions.specs.declared.asking.TheConstants.{REFUSED}
use Rattle.prt_questions.specs.declared.asserting.TheConstants.{UNREADABLE}
use Rattle.prt_questions.specs.declared.status.TheConstants.{CLOSED}

-- The script that the words name was read from these sources, and what is replied to it was written; this is the exit status. If
-- it says that all is well, no line is refused, and a server at the place that they name accepted each command.
pub record Submits (script : Submission) (from : Sources) (writer0 writer : Option (List ℕ)) (status : ℕ) : Type 0 where
  pub place : ServerPlace
  pub named : IsPlace script.server place
  pub run : IsSubmitted from place script.file writer0 writer status
  pub whole : status ≡ DONE → IsAllMade from place script.file writer0 writer

module _ {M S : Type 0} (g : Ghosts S) (by : Opener M (Held S)) (old new : M) where
  -- The database at a path was opened, served and closed; or it was refused, and no other was touched. This is the exit status.
  -- If it says that all is well, what was left has each command that a worker replied `ok N` to, at the number N.
  pub record Serves (words : List Word) (status : ℕ) : Type 0 where
    pub serving : ServeArgs
    pub named : IsServiceIn words serving
    pub limits : IsServing serving
    pub done : status ≡ DONE → IsServedBy g by serving.workers old new serving.database.now
    pub why : status ≢ DONE → (status ≡ FAULT)
        × (((reason : Refusal) × LeavesNoneOpen g by Any reason old new serving.database.now) ⊎ IsServed g by old new serving.database.now)

  -- The question that the words ask was answered from these sources, in part at most, or to its end. This is the exit status.
  pub record Asks (words : List Word) (from : Sources) (writer0 writer : Option (List ℕ)) (status : ℕ) : Type 0 where
    pub question : Asked
    pub named : IsQuestionIn words question
    pub status_is : (status ≡ DONE) ⊎ ((status ≡ REFUSED) ⊎ ((status ≡ UNREADABLE) ⊎ ((status ≡ CLOSED) ⊎ (status ≡ FAULT))))
    pub whole : status ≡ DONE → IsDone g by from old new writer0 writer question
    pub found : status ≡ REFUSED → IsFound g by from old new writer0 writer question
    pub unreadable : status ≡ UNREADABLE → IsFoundUnreadable g by from old new writer0 writer question
    pub closed : status ≡ CLOSED → IsFoundClosed g by from old new writer0 writer question
    pub at_most : IsDoneAtMost g by from old new writer0 writer question

  -- What becomes of a run that is asked for, with its exit status.
  pub data RunsPrt {File : Type 0} (opened : Word → File → Type 0) (bytes : File → Option (List ℕ)) (from : Sources) (asked : Invocation)
      (streams : Streams) (status : ℕ) : Type 0 where
    -- a script, a check or a replay was run, and no database was touched if none was asked for
    runs : Runs opened bytes (RunsOverMachine g by old new) asked streams status → LeavesDatabases asked old new →
        RunsPrt opened bytes from asked streams status
    -- help or the version was asked for
    tells : Tells old new asked status → RunsPrt opened bytes from asked streams status
    -- the words are bad
    is_misused : IsMisused old new asked streams.output_before streams.output_after status → RunsPrt opened bytes from asked streams status
    -- memory was refused, or a file or a database could not be opened
    is_stopped : IsStopped (λ old new path reason.
        LeavesNoneOpen g by Any reason old new path) old new asked streams.output_before streams.output_after status →
        RunsPrt opened bytes from asked streams status
    -- the sessions were served that the words ask for
    serves : (words : List Word) → asked ≡ serve words → Serves words status → RunsPrt opened bytes from asked streams status
    -- a server was to run the script that the words name, and no database was touched
    submits : (script : Submission) → asked ≡ submit script → new ≡ old →
        Submits script from streams.output_before streams.output_after status → RunsPrt opened bytes from asked streams status
    -- the question was answered that the words ask
    answers : (words : List Word) → asked ≡ ask words → Asks words from streams.output_before streams.output_after status →
        RunsPrt opened bytes from asked streams status

-- ---- an opening after it

-- An opening was handed a connection that shows what was left of these tables, and made this state of it, on a disk that returns what was written.
pub record FindsAgain {S : Type 0} (g : Ghosts S) (tables : Held S) (opened : State) : Type 0 where
  pub was : Held S
  pub made : Held S
  pub left : IsWhatWasLeft g tables was
  pub clean : HasCleanDisk (state g made)
  pub opens : HasOpened g was made opened

-- the first state of a run is what its opening made
abbrev pub RunBegins : {M S : Type 0} → Ghosts S → Opener M (Held S) → Type 0
RunBegins {M} {S} g by =
    (old new : M) (path : Word) (mode : Mode) (streams : Streams) (status : ℕ) (run : RunsOverMachine g by old new path mode streams status)
    → HasOpened g run.database.is_opened.was run.first.tables run.opened

-- an opening after a run makes a state that the session of that run left
abbrev pub RunIsFound : {M S : Type 0} → Ghosts S → Opener M (Held S) → Type 0
RunIsFound {M} {S} g by =
    (old new : M) (path : Word) (mode : Mode) (streams : Streams) (status : ℕ) (run : RunsOverMachine g by old new path mode streams status) (opened : State)
    → IsKnown g run.last.ours_first run.last.tables → FindsAgain g run.last.tables opened
    → SessionLeaves IsStoreMishap mode run.opened streams run.run.reader run.run.end opened

-- after serving it makes one that the publisher may have stored at its end
abbrev pub ServiceIsFound : {S : Type 0} → Ghosts S → Type 0
ServiceIsFound {S} g = (first last : Held S) (served : HasServed g first last) (opened : State) → IsKnown g served.begun.ours_first last →
    FindsAgain g last opened → MayBeStored g served.left.released.last opened

-- after a question it makes the one that was queried
abbrev pub AskedIsFound : {S : Type 0} → Ghosts S → Type 0
AskedIsFound {S} g = (first last : Held S) (stored opened : State) → HasOpened g first last stored → HasCleanDisk (state g last) →
    BeginsFormat2 (state g first).now.schema → FindsAgain g last opened → opened ≡ stored
