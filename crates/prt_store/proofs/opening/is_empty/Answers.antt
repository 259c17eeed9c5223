use Rattle.std.proofs.Common.{arith}
use Rattle.sqlite.specs.Held.{state}
use Rattle.prt_store.proofs.Anywhere.{look_fails, look_finds}
use Rattle.prt_store.proofs.Looks.{look_tells, quiet_look}
use Rattle.prt_store.specs.Shown.{ShowsNoRow, ShowsSomeRow, look_at}
use Rattle.prt_store.proofs.opening.is_empty.Goals as goal

pub returns-in-Ok-clause-finds : goal.returns-in-Ok-clause-finds
returns-in-Ok-clause-finds g c =
    let start = c.args.conn.now in
    let table = c.args.table in
    let rows = c.in-Ok.rows in
    look_finds g.S.Store (ShowsNoRow g.S.Store start table) (ShowsSomeRow g.S.Store start table) start c.query_all.new.self (look_at table) (quiet_look table (state g.S.Store start).now.schema) (rw c.look_at.ensures at c.query_all.ensures.survives) rows.items c.is_empty.result
    (rw c.look_at.ensures at c.in-Ok.ensures.ok) (look_tells g.S.Store table start rows.items rows.len c.is_empty.result (omega (arith, rows.ok.0)) c.is_empty.ensures)

pub returns-in-Err-clause-finds : goal.returns-in-Err-clause-finds
returns-in-Err-clause-finds g c =
    let start = c.args.conn.now in
    let table = c.args.table in
    look_fails g.S.Store (ShowsNoRow g.S.Store start table) (ShowsSomeRow g.S.Store start table) start c.query_all.new.self (look_at table) (quiet_look table (state g.S.Store start).now.schema) (rw c.look_at.ensures at c.query_all.ensures.survives) c.in-Err.field-0 _
    (rw c.look_at.ensures at c.in-Err.ensures.err)
