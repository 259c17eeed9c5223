use Rattle.prt_rows.specs.Kept.{key_values}
use Rattle.prt_rows.specs.RouteRow.{route_row}
use Rattle.prt_rows.specs.Selecting.{selector_row}
use Rattle.prt_rows.specs.Statements.{delete_route, flush_routes, put_route}
use Rattle.prt_store.proofs.Transactions.{statement_works}
use Rattle.prt_store.proofs.commit.edit_routes.Goals as goal

pub returns-in-Put-clause-works : goal.returns-in-Put-clause-works
returns-in-Put-clause-works g c =
    rw c.in-Put.is
    (statement_works g.S.Store put_route (route_row c.in-Put.route) c.args.tx.now.conn.now c.put_route.new.tx.conn.now c.put_route.result c.put_route.ensures.runs c.put_route.ensures.survives)

pub returns-in-Remove-clause-works : goal.returns-in-Remove-clause-works
returns-in-Remove-clause-works g c =
    rw c.in-Remove.is
    (statement_works g.S.Store delete_route (key_values c.in-Remove.key) c.args.tx.now.conn.now c.delete_route.new.tx.conn.now c.delete_route.result c.delete_route.ensures.runs c.delete_route.ensures.survives)

pub returns-in-Flush-clause-works : goal.returns-in-Flush-clause-works
returns-in-Flush-clause-works g c =
    rw c.in-Flush.is
    (statement_works g.S.Store flush_routes (selector_row c.in-Flush.selector) c.args.tx.now.conn.now c.flush_routes.new.tx.conn.now c.flush_routes.result c.flush_routes.ensures.runs c.flush_routes.ensures.survives)
