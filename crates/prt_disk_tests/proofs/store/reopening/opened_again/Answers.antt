use Rattle.std.proofs.Common.{◌∙◌}
use Rattle.sqlite.proofs.Callers.{finds_again}
use Rattle.sqlite.specs.Files.{file_state}
use Rattle.prt_disk_tests.proofs.Databases.{same_database}
use Rattle.prt_disk_tests.proofs.store.reopening.opened_again.Goals as goal

pub returns-in-Ok-open_files : goal.returns-in-Ok-open_files
returns-in-Ok-open_files g c clean =
    let found = c.in-Ok-open_files.ensures.found clean in
    let opened = c.in-Ok-open_files.ensures.opened clean in
    let copied = c.in-Ok.ensures.copied found.honest in
    let again = c.in-Ok-open_files.again in
    let trees = finds_again c.args.conn again c.in-Ok.files c.in-Ok.ensures.copied found in
    opened.0.clean ∙ same_database (file_state again).committed (file_state c.args.conn).committed (opened.1 opened.0.is_open).1 (c.schema-live.ensures.live copied.was_open).1 trees
