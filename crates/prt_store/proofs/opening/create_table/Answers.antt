use Rattle.std.proofs.Common.{[]}
use Rattle.prt_store.proofs.Transactions.{statement_works}
use Rattle.prt_store.specs.Openings.{create}
use Rattle.prt_store.proofs.opening.create_table.Goals as goal

pub returns-clause-works : goal.returns-clause-works
returns-clause-works g c =
    statement_works g.S.Store (create c.args.table) [] c.args.tx.now.conn.now c.execute.new.self.conn.now c.execute.result (rw c.create.ensures at c.execute.ensures.runs) c.execute.ensures.survives
