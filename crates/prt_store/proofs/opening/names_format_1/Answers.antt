use Rattle.sqlite.specs.Held.{state}
use Rattle.prt_rows.proofs.Quiet.{quiet_read_meta}
use Rattle.prt_rows.specs.Statements.{read_meta}
use Rattle.prt_store.proofs.Anywhere.{format_tells, look_fails, look_finds}
use Rattle.prt_store.specs.Shown.{ShowsFormat1, ShowsOtherFormat}
use Rattle.prt_store.proofs.opening.names_format_1.Goals as goal

pub returns-in-Ok-clause-finds : goal.returns-in-Ok-clause-finds
returns-in-Ok-clause-finds g c =
    let start = c.args.conn.now in
    let rows = c.in-Ok.rows.items in
    look_finds g.S.Store (ShowsFormat1 g.S.Store start) (ShowsOtherFormat g.S.Store start) start c.query_all.new.self read_meta (quiet_read_meta (state g.S.Store start).now.schema) c.query_all.ensures.survives rows c.is_some.result c.in-Ok.ensures.ok
    (format_tells g.S.Store start rows c.count_in_format_1.result c.is_some.result (rw c.as_slice.ensures.value at c.count_in_format_1.ensures) c.is_some.ensures)

pub returns-in-Err-clause-finds : goal.returns-in-Err-clause-finds
returns-in-Err-clause-finds g c =
    let start = c.args.conn.now in
    look_fails g.S.Store (ShowsFormat1 g.S.Store start) (ShowsOtherFormat g.S.Store start) start c.query_all.new.self read_meta (quiet_read_meta (state g.S.Store start).now.schema) c.query_all.ensures.survives c.in-Err.field-0 _ c.in-Err.ensures.err
