-- Databases that are closed and opened again.
use Rattle.sqlite.specs.Closing.{IsCopied}
use Rattle.sqlite.specs.Effect.{IsDatabase}
use Rattle.sqlite.specs.Files.{Finds, IsOpened, file_state, over_files}
use Rattle.sqlite.specs.Held.{Held, state}
use Rattle.sqlite.specs.State.{HasCleanDisk}
use Rattle.sqlite.specs.Store.{Ghosts}
use Rattle.sqlite_disk.specs.declared.Disk as disk
use Rattle.sqlite_disk.specs.declared.Files.{Files}
use Rattle.sqlite_store.specs.declared.store.FileStore.{FileStore}
use Rattle.sqlite_wal.specs.Reads.{AreClean}

-- the connection that was found shows what a crash might have left of these tables, or a closing, which leaves no more
abbrev pub IsWhatWasLeft : {S : Type 0} → Ghosts S → Held S → Held S → Type 0
IsWhatWasLeft g tables found = IsDatabase (state g found).now × (state g tables).may_leave (state g found).now.trees

-- Files that a connection was closed to, and from which another one was opened, show what was left, if the disk returns
-- what was written.
abbrev pub FilesKeep : {D : Type 0} → disk.Ghosts D → Type 0
FilesKeep {D} g = (tables found : Held (FileStore D g)) (files : Files D) → (AreClean g files.log files.db → IsCopied tables files) →
    (HasCleanDisk (file_state found) → Finds files found × IsOpened found)
    → HasCleanDisk (file_state found) → IsWhatWasLeft over_files tables found
