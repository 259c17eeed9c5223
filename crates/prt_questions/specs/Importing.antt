-- What `ip` prints, as a script, or as the tables of a database.
use Rattle.std.specs.Prelude.{◌≡◌, ◌⊎◌, ℕ, false, List, Option, None, Some}
use Rattle.std.specs.Io.KnownBytes.{Appends}
use Rattle.sqlite.specs.Held.{Held}
use Rattle.sqlite.specs.Store.{Ghosts}
use Rattle.prt_addr.specs.Word.{Word}
use Rattle.prt_import.specs.declared.accepted.Accepted.{Accepted}
use Rattle.prt_import.specs.declared.omitted_line.OmittedLine.{OmittedLine}
use Rattle.prt_questions.specs.Applying.{IsMadeAt, IsMadeAtMost}
use Rattle.prt_questions.specs.Asking.{IsCutOff, IsListing, IsWholeListing}
use Rattle.prt_questions.specs.Sources.{Gives, Sources}
use Rattle.prt_machine.specs.declared.database_opener.DatabaseOpener.{Ghosts as Opener}

module _ {M S : Type 0} (g : Ghosts S) (by : Opener M (Held S)) (old new : M) (writer0 writer : Option (List ℕ)) where
  -- the script of a listing was written, or the tables of the database at a path were made those that it makes
  abbrev pub IsImported : Option Word → Accepted → Type 0
  IsImported None accepted = (new ≡ old) × Appends writer0 writer accepted.script.items
  IsImported (Some path) accepted = IsMadeAt g by old new writer0 writer path false false accepted.version

  -- the script was written in part, or the tables were made so at most
  abbrev pub IsImportedAtMost : Option Word → Accepted → Type 0
  IsImportedAtMost None accepted = (new ≡ old) × IsCutOff accepted.script.items writer0 writer
  IsImportedAtMost (Some path) accepted = IsMadeAtMost g by old new writer0 writer path false false accepted.version

module _ {M S : Type 0} (g : Ghosts S) (by : Opener M (Held S)) (from : Sources) (old new : M) (writer0 writer : Option (List ℕ)) where
  -- all of a listing that was read was imported
  abbrev pub HasImported : (file database : Option Word) → Type 0
  HasImported file database = (accepted : Accepted) × IsWholeListing (Gives from file) accepted × IsImported g by old new writer0 writer database accepted

  -- in any case: there was no listing, and nothing was done, or it was imported at most
  abbrev pub HasImportedAtMost : (file database : Option Word) → Type 0
  HasImportedAtMost file database =
      ((new ≡ old) × (writer ≡ writer0))
      ⊎ ((accepted : Accepted) × (left : List OmittedLine) × IsListing (Gives from file) left accepted
      × IsImportedAtMost g by old new writer0 writer database accepted)
