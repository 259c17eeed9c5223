-- A run over the databases of a machine, as the machine alone sees it.
use Rattle.std.proofs.Common.{inl, inr, ℕ, List, Option, Some, None, ap}
use Rattle.sqlite.specs.Held.{Held}
use Rattle.sqlite.specs.Store.{Ghosts}
use Rattle.prt_addr.specs.Word.{Word}
use Rattle.prt_refusals.specs.declared.refusal.Refusal.{Refusal}
use Rattle.prt_machine.specs.declared.database_opener.DatabaseOpener.{Ghosts as Opener}
use Rattle.prt_machine.specs.declared.database_opener.Wanted.TheVariants.{Any}
use Rattle.prt_publisher.specs.Remains.{Remains}
use Rattle.prt_publisher.specs.StoreDesk.{IsKept, IsStoreMishap, LeavesFound, StandsFor}
use Rattle.prt_program.specs.Faults.{database_of}
use Rattle.prt_program.specs.Program.{IsUntouched, Runs, RunsAt, RunsBatch, RunsNothing, RunsOver, SessionFact, Streams}
use Rattle.prt_publisher.specs.Openings.{OpensOne}
use Rattle.prt_version.specs.Sound.{IsSound}
use Rattle.prt_args.specs.Invocation.{Invocation, batch, check, replay}
use Rattle.prt_args.specs.declared.task.Mode.{Mode}
use Rattle.prt_host.specs.Sessions.{RunsOverMachine}

-- ---- the same run, of the machine alone

module _ {D M S : Type 0} (g : Ghosts S) (by : Opener M (Held S)) (old new : D) (machine : D → M) where
  -- as the program says it of all that stands round a machine
  abbrev pub RunsRound : Word → SessionFact
  RunsRound path =
      RunsAt (λ _ _ opened. IsSound opened) (λ (old new : D) path desk. OpensOne g (by.opens Any (machine old) (machine new) path) desk) (λ (old new : D) desk. IsKept g desk × by.closes (machine old) (machine new) desk.tables)
      (LeavesFound g) (StandsFor g) (Remains g) IsStoreMishap old new path

  abbrev pub Alone : Word → SessionFact
  Alone = RunsOverMachine g by (machine old) (machine new)

  at_alone : (path : Word) (mode : Mode) (streams : Streams) (status : ℕ) → RunsRound path mode streams status → Alone path mode streams status
  at_alone path mode streams status run = record {
    opened = run.opened;
    first = run.first;
    last = run.last;
    is_held = run.is_held;
    is_open = run.is_open;
    database = record { between = machine run.database.between; is_opened = run.database.is_opened; is_closed = run.database.is_closed };
    run = run.run;
    kept = run.kept;
    durable = run.durable;
  }

  batch_alone : (path : Option Word) (mode : Mode) (streams : Streams) (status : ℕ) → RunsBatch RunsRound path mode streams status → RunsBatch Alone path mode streams status
  batch_alone None mode streams status run = run
  batch_alone (Some path) mode streams status run = at_alone path mode streams status run

  over_alone : {File : Type 0} (opened : Word → File → Type 0) (bytes : File → Option (List ℕ)) (database : Option Word) (mode : Mode) (file : Option Word) (streams : Streams) (status : ℕ)
      → RunsOver opened bytes (RunsBatch RunsRound database mode) file streams status → RunsOver opened bytes (RunsBatch Alone database mode) file streams status
  over_alone opened bytes database mode None streams status run = batch_alone database mode streams status run
  over_alone opened bytes database mode (Some path) streams status run = (run.0, run.1, batch_alone database mode (record streams { input = bytes run.0 }) status run.2)

  pub runs_alone : {File : Type 0} (opened : Word → File → Type 0) (bytes : File → Option (List ℕ)) (asked : Invocation) (streams : Streams) (status : ℕ) → Runs opened bytes RunsRound asked streams status → Runs opened bytes Alone asked streams status
  runs_alone opened bytes (batch script) streams status run = over_alone opened bytes script.database script.mode script.file streams status run
  runs_alone opened bytes (check file) streams status run = run
  runs_alone opened bytes (replay file) streams status run = run
  runs_alone opened bytes _ streams status run = absurd run

  nothing_alone : (refuses : M → M → Word → Refusal → Type 0) (path : Option Word) → IsUntouched (λ (old new : D) path reason. refuses (machine old) (machine new) path reason) path old new → IsUntouched refuses path (machine old) (machine new)
  nothing_alone refuses None same = ap machine same
  nothing_alone refuses (Some path) (inl same) = inl (ap machine same)
  nothing_alone refuses (Some path) (inr refused) = inr refused

  pub runs_nothing_alone : (refuses : M → M → Word → Refusal → Type 0) (asked : Invocation) (writer0 writer : Option (List ℕ)) (status : ℕ)
      → RunsNothing (λ (old new : D) path reason. refuses (machine old) (machine new) path reason) old new asked writer0 writer status → RunsNothing refuses (machine old) (machine new) asked writer0 writer status
  runs_nothing_alone refuses asked writer0 writer status (inl told) = inl (told.0, told.1, ap machine told.2)
  runs_nothing_alone refuses asked writer0 writer status (inr (inl misused)) = inr (inl (misused.0, misused.1, misused.2, ap machine misused.3))
  runs_nothing_alone refuses asked writer0 writer status (inr (inr stopped)) = inr (inr (stopped.0, stopped.1, nothing_alone refuses (database_of asked) stopped.2))
