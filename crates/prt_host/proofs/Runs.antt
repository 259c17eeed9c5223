-- Runs over the databases of a machine.
use Rattle.std.proofs.Common.{◌≡◌, ◌≢◌, ◌⊎◌, inl, inr, ℕ, List, Option, refl, ap, ◌∙◌, subst, sym}
use Rattle.sqlite.specs.Held.{Held, state}
use Rattle.sqlite.specs.State.{HasCleanDisk}
use Rattle.sqlite.specs.Store.{Ghosts}
use Rattle.prt_addr.specs.Word.{Word}
use Rattle.prt_refusals.specs.declared.refusal.Refusal.{Refusal}
use Rattle.prt_machine.specs.declared.database_opener.DatabaseOpener.{Ghosts as Opener}
use Rattle.prt_publisher.proofs.Kept.{durable_is, shows}
use Rattle.prt_publisher.specs.StoreDesk.{IsKept, MayBeStored, desk_with}
use Rattle.prt_program.specs.Program.{LeavesDatabases, Runs, RunsNothing, Streams}
use Rattle.prt_publisher.specs.Openings.{HasOpened}
use Rattle.prt_publisher.specs.Standing.{Standing}
use Rattle.prt_session.specs.Desk.{settled}
use Rattle.prt_store.proofs.Exits.{found_is}
use Rattle.prt_store.proofs.Spelled.{stored_there}
use Rattle.prt_store.specs.Exits.{IsKnown, Spells}
use Rattle.prt_version.specs.State.{State}
use Rattle.prt_args.specs.Invocation.{Invocation, Submission}
use Rattle.prt_args.specs.Places.{IsPlace}
use Rattle.prt_args.specs.Read.{IsServiceIn}
use Rattle.prt_args.specs.Tasks.{IsServing}
use Rattle.prt_args.specs.declared.fault.Fault.{Fault}
use Rattle.prt_args.specs.declared.fault.TheConstants.{DONE, FAULT}
use Rattle.prt_args.specs.declared.server_place.ServerPlace.{ServerPlace}
use Rattle.prt_args.specs.declared.serving.ServeArgs.{ServeArgs}
use Rattle.prt_machine.specs.Closing.{LeavesNoneOpen}
use Rattle.prt_host.specs.Runs.{AskedIsFound, Asks, FindsAgain, RunBegins, RunIsFound, RunsPrt, Serves, ServiceIsFound, Submits, is_misused, is_stopped, runs, tells}
use Rattle.prt_host.specs.Serving.{IsNotServed, IsServed, IsServedBy}
use Rattle.prt_questions.specs.Sources.{Sources}
use Rattle.prt_questions.specs.Submitting.{IsAllMade, IsSubmitted}
use Rattle.prt_machine.specs.declared.database_opener.Wanted.TheVariants.{Any}
use Rattle.prt_host.proofs.Alone.{RunsRound, runs_alone, runs_nothing_alone}

-- ---- how a run ends

module _ {D M S : Type 0} (g : Ghosts S) (by : Opener M (Held S)) (old new : D) (machine : D → M) where
  pub exit_alone : {File : Type 0} (opened : Word → File → Type 0) (bytes : File → Option (List ℕ)) (from : Sources) (asked : Invocation) (streams : Streams) (status : ℕ)
      → Runs opened bytes (RunsRound g by old new machine) asked streams status ⊎ RunsNothing (λ (old new : D) path reason. LeavesNoneOpen g by Any reason (machine old) (machine new) path) old new asked streams.output_before streams.output_after status
      → LeavesDatabases asked old new → RunsPrt g by (machine old) (machine new) opened bytes from asked streams status
  exit_alone opened bytes from asked streams status (inl ran) left = runs (runs_alone g by old new machine opened bytes asked streams status ran) (λ none. ap machine (left none))
  exit_alone opened bytes from asked streams status (inr nothing) left =
      go (runs_nothing_alone g by old new machine (λ old new path reason. LeavesNoneOpen g by Any reason old new path) asked streams.output_before streams.output_after status nothing)
    where
      go : RunsNothing (λ (old new : M) path reason. LeavesNoneOpen g by Any reason old new path) (machine old) (machine new) asked streams.output_before streams.output_after status
          → RunsPrt g by (machine old) (machine new) opened bytes from asked streams status
      go (inl told) = tells told
      go (inr (inl misused)) = is_misused misused
      go (inr (inr stopped)) = is_stopped stopped

-- ---- what stays

pub same_at : {D M : Type 0} (old new : D) (machine : D → M) → new ≡ old → machine new ≡ machine old
same_at old new machine same = ap machine same

-- a question was answered from what it was handed, which is what the program was
pub asks_from : {D M S : Type 0} (g : Ghosts S) (by : Opener M (Held S)) (old new : M) (words : List Word)
    (before after : D) → after ≡ before → (input0 input : Option (List ℕ)) → input ≡ input0 → (from : D → Option (List ℕ) → Sources) (writer0 writer : Option (List ℕ)) (status : ℕ)
    → Asks g by old new words (from after input) writer0 writer status → Asks g by old new words (from before input0) writer0 writer status
asks_from {D} g by old new words before after same input0 input unread from writer0 writer status ended =
    subst (λ (d : D). Asks g by old new words (from d input0) writer0 writer status) same
    (subst (λ (i : Option (List ℕ)). Asks g by old new words (from after i) writer0 writer status) unread ended)

-- a script was sent from what it was handed, which is what the program was
pub submits_from : {D : Type 0} (script : Submission) (place : ServerPlace) → IsPlace script.server place → (before after : D) → after ≡ before → (input0 input : Option (List ℕ)) → input ≡ input0
    → (from : D → Option (List ℕ) → Sources) (writer_mid writer0 writer : Option (List ℕ)) → writer_mid ≡ writer0 → (status : ℕ) → IsSubmitted (from after input) place script.file writer_mid writer status
    → (status ≡ DONE → IsAllMade (from after input) place script.file writer_mid writer) → Submits script (from before input0) writer0 writer status
submits_from {D} script place named before after same input0 input unread from writer_mid writer0 writer unwritten status run whole =
    let ended : Submits script (from after input) writer_mid writer status = record { place = place; named = named; run = run; whole = whole } in
    subst (λ (d : D). Submits script (from d input0) writer0 writer status) same
    (subst (λ (i : Option (List ℕ)). Submits script (from after i) writer0 writer status) unread
    (subst (λ (w : Option (List ℕ)). Submits script (from after input) w writer status) unwritten ended))

-- ---- a server that ended with a fault

pub not_served : {M S : Type 0} (g : Ghosts S) (by : Opener M (Held S)) (old new : M) (path : List ℕ) (fault : Fault)
    → IsNotServed g by old new path fault → ((reason : Refusal) × LeavesNoneOpen g by Any reason old new path) ⊎ IsServed g by old new path
not_served g by old new path fault (inl none) = inl (none.0, none.2)
not_served g by old new path fault (inr served) = inr served.0

module _ {M S : Type 0} (g : Ghosts S) (by : Opener M (Held S)) (mid old new : M) (same : mid ≡ old) where
  -- what was done after the words were read was done from the start on, since no database was touched before
  pub has_served : (words : List Word) (serving : ServeArgs) (status : ℕ) → IsServiceIn words serving → IsServing serving → (status ≡ DONE → IsServedBy g by serving.workers mid new serving.database.now) → (status ≢ DONE → status ≡ FAULT)
      → (status ≢ DONE → (fault : Fault) × IsNotServed g by mid new serving.database.now fault) → Serves g by old new words status
  has_served words serving status named limits done fault why =
      let ended : Serves g by mid new words status = record {
        serving = serving;
        named = named;
        limits = limits;
        done = done;
        why = λ not_done. (fault not_done, not_served g by mid new serving.database.now (why not_done).0 (why not_done).1);
      } in
      subst (λ (m : M). Serves g by m new words status) same ended

  pub has_answered : (words : List Word) (from : Sources) (writer_mid writer0 writer : Option (List ℕ)) → writer_mid ≡ writer0 → (status : ℕ) → Asks g by mid new words from writer_mid writer status → Asks g by old new words from writer0 writer status
  has_answered words from writer_mid writer0 writer unwritten status ended =
      subst (λ (m : M). Asks g by m new words from writer0 writer status) same (subst (λ (w : Option (List ℕ)). Asks g by mid new words from w writer status) unwritten ended)

-- ---- an opening after it

module _ {S : Type 0} (g : Ghosts S) where
  -- it makes the state that was left
  found_again : (tables : Held S) (opened : State) (found : FindsAgain g tables opened) (stored : State) → Spells (state g found.was).now.trees stored → opened ≡ stored
  found_again tables opened found stored spells =
      let was = (state g found.was).now in
      let begins = inr (inr (inr (inr (stored_there was stored found.left.0 spells).tables))) in
      let adopted = found.opens.adopts found.clean begins in
      found_is was opened stored ((state g found.made).now, adopted.0, adopted.1.now) found.left.0 spells

  -- if a publisher is at rest, one that it may have stored
  found_stored : (last : Standing (Held S)) → IsKept g last → IsKnown g last.ours_first last.tables → (opened : State) → FindsAgain g last.tables opened → MayBeStored g last opened
  found_stored last kept known opened found =
      let left = durable_is g last kept known (state g found.was).now.trees found.left.1 in
      subst (MayBeStored g last) (sym (found_again last.tables opened found left.0 left.1)) left.2

  pub service_is_found : ServiceIsFound g
  service_is_found first last served opened known found =
      let end = served.left.released in
      let known_then : IsKnown g end.last.ours_first end.last.tables = (end.named.2 ∙ known.0, subst (λ (t : Held S). HasCleanDisk (state g t)) (sym end.its) known.1) in
      found_stored end.last (end.quiet, end.stands) known_then opened (subst (λ (t : Held S). FindsAgain g t opened) (sym end.its) found)

  pub asked_is_found : AskedIsFound g
  asked_is_found first last stored opened made clean begins found = found_again last opened found stored ((made.adopts clean begins).1.durable (state g found.was).now.trees found.left.1)

module _ {M S : Type 0} (g : Ghosts S) (by : Opener M (Held S)) where
  pub run_begins : RunBegins g by
  run_begins old new path mode streams status run =
      let made = run.database.is_opened in
      subst (HasOpened g made.was run.first.tables) (sym (shows g run.first (settled run.opened) run.is_open.there)) made.opened

  pub run_is_found : RunIsFound g by
  run_is_found old new path mode streams status run opened known found =
      let after = desk_with run.last opened in
      (after, run.run.run after (found_stored g run.last run.database.is_closed.0 known opened found), refl)
