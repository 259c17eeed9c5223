-- What was done for a question, by the exit status.
use Rattle.std.specs.Prelude.{◌≡◌, ◌⊎◌, ℕ, List, Option, false, true}
use Rattle.std.specs.Io.KnownBytes.{Appends}
use Rattle.sqlite.specs.Held.{Held}
use Rattle.sqlite.specs.Store.{Ghosts}
use Rattle.prt_args.specs.declared.asking.Asked.{Asked}
use Rattle.prt_args.specs.declared.asking.Asked.TheVariants.{Apply, Assert, Diff, Follow, Impact, Import, Status, Tables, Unused, Wait}
use Rattle.prt_args.specs.declared.fault.TheConstants.{DONE}
use Rattle.prt_args.specs.declared.server_place.ServerPlace.TheVariants.{Folder}
use Rattle.prt_questions.specs.Analyses.{IsAsserted, IsAssertedAtMost, IsFoundAtMost, IsFoundOf, IsRehearsed, IsRehearsedAtMost, IsSearched}
use Rattle.prt_questions.specs.Analyses.{IsSearchedAtMost, IsUnreadable}
use Rattle.prt_questions.specs.Asking.{HasAnswered, HasAnsweredAtMost, HasCompared, HasComparedAtMost, HasFollowed, HasFollowedAtMost, IsCutOff}
use Rattle.prt_questions.specs.Applying.{HasApplied, HasAppliedAtMost}
use Rattle.prt_questions.specs.Importing.{HasImported, HasImportedAtMost}
use Rattle.prt_questions.specs.Sources.{Gives, Sources, after, path_of, rest_by}
use Rattle.prt_questions.specs.StatusText.{is_closed, status_text}
use Rattle.prt_questions.specs.declared.asking.TheConstants.{REFUSED}
use Rattle.prt_questions.specs.declared.asserting.TheConstants.{UNREADABLE}
use Rattle.prt_machine.specs.declared.database_opener.DatabaseOpener.{Ghosts as Opener}

module _ {M S : Type 0} (g : Ghosts S) (by : Opener M (Held S)) (from : Sources) (old new : M) (writer0 writer : Option (List ℕ)) where
  -- what was asked is done, if the exit status is 0
  abbrev pub IsDone : Asked → Type 0
  IsDone (Tables asking) = HasAnswered g by from old new writer0 writer asking
  IsDone (Diff diffing) = HasCompared g by from old new writer0 writer (path_of diffing.file) diffing.reach diffing.shown diffing.source
  IsDone (Follow following) = (new ≡ old) × HasFollowed from writer0 writer (path_of following.file) following.server following.reach
  IsDone (Wait waiting) = (new ≡ old) × (writer ≡ writer0) × from.speaks waiting.server
  IsDone (Import importing) = HasImported g by from old new writer0 writer (path_of importing.file) (path_of importing.database)
  IsDone (Impact rehearsing) = IsFoundOf g by from old new rehearsing.source DONE
      (IsRehearsed (Gives (after (rest_by rehearsing.source) from) (path_of rehearsing.file)) writer0 writer rehearsing DONE)
  IsDone (Assert asserting) = IsFoundOf g by from old new asserting.source DONE
      (IsAsserted (Gives (after (rest_by asserting.source) from) (path_of asserting.file)) writer0 writer asserting DONE)
  IsDone (Unused source) = IsFoundOf g by from old new source DONE (IsSearched writer0 writer DONE)
  IsDone (Apply applying) = HasApplied g by from old new writer0 writer applying
  IsDone (Status inspecting) = (new ≡ old)
      × ((said : List ℕ) × from.reports (Folder inspecting.folder) said × Appends writer0 writer (status_text inspecting.form said)
      × (is_closed said ≡ false))

  -- what status 1 says of a question about all packets
  abbrev pub IsFound : Asked → Type 0
  IsFound (Impact rehearsing) = IsFoundOf g by from old new rehearsing.source REFUSED
      (IsRehearsed (Gives (after (rest_by rehearsing.source) from) (path_of rehearsing.file)) writer0 writer rehearsing REFUSED)
  IsFound (Assert asserting) = IsFoundOf g by from old new asserting.source REFUSED
      (IsAsserted (Gives (after (rest_by asserting.source) from) (path_of asserting.file)) writer0 writer asserting REFUSED)
  IsFound (Unused source) = IsFoundOf g by from old new source REFUSED (IsSearched writer0 writer REFUSED)
  IsFound asked = Unit {0}

  -- what status 2 says: a line of the claims is none, and nothing was written; no other question ends with it
  abbrev pub IsFoundUnreadable : Asked → Type 0
  IsFoundUnreadable (Assert asserting) =
      IsFoundOf g by from old new asserting.source UNREADABLE
      (IsUnreadable (Gives (after (rest_by asserting.source) from) (path_of asserting.file)) writer0 writer)
  IsFoundUnreadable asked = ⊥

  -- what status 4 says: a server takes no command any more, and all that it said of itself was written; no other question ends with it
  abbrev pub IsFoundClosed : Asked → Type 0
  IsFoundClosed (Status inspecting) =
      (new ≡ old) × ((said : List ℕ) × from.reports (Folder inspecting.folder) said
      × Appends writer0 writer (status_text inspecting.form said) × (is_closed said ≡ true))
  IsFoundClosed asked = ⊥

  -- and what is left in any case
  abbrev pub IsDoneAtMost : Asked → Type 0
  IsDoneAtMost (Tables asking) = HasAnsweredAtMost g by from old new writer0 writer asking
  IsDoneAtMost (Diff diffing) = HasComparedAtMost g by from old new writer0 writer (path_of diffing.file) diffing.reach diffing.shown diffing.source
  IsDoneAtMost (Follow following) = (new ≡ old) × HasFollowedAtMost from writer0 writer (path_of following.file) following.server following.reach
  IsDoneAtMost (Wait waiting) = (new ≡ old) × (writer ≡ writer0)
  IsDoneAtMost (Import importing) = HasImportedAtMost g by from old new writer0 writer (path_of importing.file) (path_of importing.database)
  IsDoneAtMost (Impact rehearsing) =
      IsFoundAtMost g by from old new writer0 writer rehearsing.source
      (IsRehearsedAtMost (Gives (after (rest_by rehearsing.source) from) (path_of rehearsing.file)) writer0 writer rehearsing)
  IsDoneAtMost (Assert asserting) =
      IsFoundAtMost g by from old new writer0 writer asserting.source
      (IsAssertedAtMost (Gives (after (rest_by asserting.source) from) (path_of asserting.file)) writer0 writer asserting)
  IsDoneAtMost (Unused source) = IsFoundAtMost g by from old new writer0 writer source (IsSearchedAtMost writer0 writer)
  IsDoneAtMost (Apply applying) = HasAppliedAtMost g by from old new writer0 writer applying
  IsDoneAtMost (Status inspecting) =
      (new ≡ old) × ((writer ≡ writer0)
      ⊎ ((said : List ℕ) × from.reports (Folder inspecting.folder) said × IsCutOff (status_text inspecting.form said) writer0 writer))
