use Rattle.std.proofs.Common.{subst}
use Rattle.sqlite_value.specs.Order.{Row}
use Rattle.prt_rows.specs.Statements.{insert_meta}
use Rattle.prt_store.proofs.Transactions.{statement_works}
use Rattle.prt_store.specs.Openings.{Ran, Works}
use Rattle.prt_store.proofs.opening.insert_count.Goals as goal

pub returns-clause-works : goal.returns-clause-works
returns-clause-works g c =
    subst (λ (values : Row). Works g.S.Store (Ran g.S.Store insert_meta values) c.args.tx.now.conn.now c.execute.new.self.conn.now c.execute.result) c.meta_values.ensures
    (statement_works g.S.Store insert_meta _ c.args.tx.now.conn.now c.execute.new.self.conn.now c.execute.result c.execute.ensures.runs c.execute.ensures.survives)
