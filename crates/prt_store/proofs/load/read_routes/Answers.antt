use Rattle.std.proofs.Common.{[], drop, subst, sym}
use Rattle.std.proofs.lemmas.Result.{IfOk-weaker}
use Rattle.sqlite.specs.Held.{state}
use Rattle.sqlite.specs.State.{Shown}
use Rattle.prt_rows.proofs.Quiet.{quiet_read_routes}
use Rattle.prt_rows.specs.RouteRow.{IsInRange, route_row}
use Rattle.prt_rows.specs.Statements.{read_routes}
use Rattle.prt_store.proofs.Shown.{nothing_read, rows_read, routes_shown}
use Rattle.prt_store.proofs.load.read_routes.Goals as goal

pub returns-in-Ok : goal.returns-in-Ok
returns-in-Ok g c =
    let old = state g.S.Store c.args.conn.now in
    let new = state g.S.Store c.query_all.new.self in
    rows_read g.S.Store c.args.conn.now c.query_all.new.self read_routes (quiet_read_routes old.now.schema) c.query_all.ensures.survives route_row IsInRange (drop 1) c.as_slice.result.now c.routes_of_rows.result
    (λ clean. subst (Shown read_routes [] old new) (sym c.as_slice.ensures.value) (c.in-Ok.ensures.ok clean)) c.routes_of_rows.ensures.rise
    (IfOk-weaker c.routes_of_rows.result _ _ (λ routes read shown rise. routes_shown g.S.Store c.args.conn.now c.as_slice.result.now routes.items read shown rise) c.routes_of_rows.ensures.ok)
    c.routes_of_rows.ensures.err

pub returns-in-Err : goal.returns-in-Err
returns-in-Err g c =
    nothing_read g.S.Store c.args.conn.now c.query_all.new.self read_routes (quiet_read_routes (state g.S.Store c.args.conn.now).now.schema) c.query_all.ensures.survives c.in-Err.field-0 c.in-Err.ensures.err
