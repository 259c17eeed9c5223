-- Files from which a database is opened again.
use Rattle.std.proofs.Common.{◌≡◌, ap, subst, sym, ◌∙◌}
use Rattle.sqlite.proofs.Callers.{finds_again}
use Rattle.sqlite.specs.Effect.{Database}
use Rattle.sqlite.specs.Files.{file_state}
use Rattle.sqlite.specs.Tree.{Trees}
use Rattle.sqlite_disk.specs.declared.Disk as disk
use Rattle.sqlite_store.specs.Laws.{stays_at}
use Rattle.sqlite_wal.proofs.LogLemmas.{SeenMayStay}
use Rattle.prt_publisher.specs.Files.{FilesKeep}

-- the open finds what was committed, which is what a crash may have left
pub files_keep : {D : Type 0} (g : disk.Ghosts D) → SeenMayStay g → FilesKeep g
files_keep g stays tables found files copied finds clean =
    let there = (finds clean).0 in
    let live = (finds clean).1 in
    let was = copied there.honest in
    let same_trees : (file_state found).now.trees ≡ (file_state tables).committed.trees = ap (λ (db : Database). db.trees) live.0.clean ∙ finds_again tables found files copied there in
    ((live.1 live.0.is_open).0, subst (λ (t : Trees). (file_state tables).may_leave t) (sym same_trees) (stays_at tables.store stays was.was_open))
