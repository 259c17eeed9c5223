use Rattle.std.proofs.Common.{[], subst, sym}
use Rattle.std.proofs.lemmas.Result.{IfOk-weaker}
use Rattle.sqlite.specs.Held.{state}
use Rattle.sqlite.specs.State.{Shown}
use Rattle.prt_rows.proofs.Quiet.{quiet_read_suppress}
use Rattle.prt_rows.specs.SuppressRow.{IsLength, suppress_row}
use Rattle.prt_rows.specs.Statements.{read_suppress}
use Rattle.prt_store.proofs.Shown.{nothing_read, rows_read, lengths_shown}
use Rattle.prt_store.proofs.load.read_lengths.Goals as goal

pub returns-in-Ok : goal.returns-in-Ok
returns-in-Ok g c =
    let old = state g.S.Store c.args.conn.now in
    let new = state g.S.Store c.query_all.new.self in
    rows_read g.S.Store c.args.conn.now c.query_all.new.self read_suppress (quiet_read_suppress old.now.schema) c.query_all.ensures.survives suppress_row (IsLength c.args.last) (λ row. row) c.as_slice.result.now c.lengths_of_rows.result
    (λ clean. subst (Shown read_suppress [] old new) (sym c.as_slice.ensures.value) (c.in-Ok.ensures.ok clean)) c.lengths_of_rows.ensures.rise
    (IfOk-weaker c.lengths_of_rows.result _ _ (λ lengths read shown rise. lengths_shown g.S.Store c.args.conn.now c.as_slice.result.now c.args.last lengths.items read shown) c.lengths_of_rows.ensures.ok)
    c.lengths_of_rows.ensures.err

pub returns-in-Err : goal.returns-in-Err
returns-in-Err g c =
    nothing_read g.S.Store c.args.conn.now c.query_all.new.self read_suppress (quiet_read_suppress (state g.S.Store c.args.conn.now).now.schema) c.query_all.ensures.survives c.in-Err.field-0 c.in-Err.ensures.err
