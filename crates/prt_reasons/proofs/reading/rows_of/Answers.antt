use Rattle.std.proofs.Common.{Ok}
use Rattle.sqlite.specs.Held.{state}
use Rattle.prt_store.proofs.Loads.{shown_only}
use Rattle.prt_store.proofs.Shown.{nothing_read}
use Rattle.prt_reasons.specs.Shows.{text}
use Rattle.prt_reasons.proofs.Readings.{quiet, shows}
use Rattle.prt_reasons.proofs.reading.rows_of.Goals as goal

pub returns-in-Ok : goal.returns-in-Ok
returns-in-Ok g c =
    let old = c.args.conn.now in
    let new = c.query_all.new.self in
    let table = c.args.table in
    let rows = c.in-Ok.rows in
    let shown = rw c.text.ensures at c.in-Ok.ensures.ok in
    record {
      shown = λ clean. shows table (state g.S.Store old) (state g.S.Store new) rows.items (shown clean);
      damage = λ clean. tt;
      only = shown_only g.S.Store old new (text table) (quiet table (state g.S.Store old).now.schema) (rw c.text.ensures at c.query_all.ensures.survives) rows.items (Ok rows) shown tt;
    }

pub returns-in-Err : goal.returns-in-Err
returns-in-Err g c =
    let old = c.args.conn.now in
    nothing_read g.S.Store old c.query_all.new.self (text c.args.table) (quiet c.args.table (state g.S.Store old).now.schema) (rw c.text.ensures at c.query_all.ensures.survives) c.in-Err.field-0 (rw c.text.ensures at c.in-Err.ensures.err)
