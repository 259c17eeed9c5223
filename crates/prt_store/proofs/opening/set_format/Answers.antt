use Rattle.std.proofs.Common.{[]}
use Rattle.prt_rows.specs.Statements.{migrate}
use Rattle.prt_store.proofs.Transactions.{statement_works}
use Rattle.prt_store.proofs.opening.set_format.Goals as goal

pub returns-clause-works : goal.returns-clause-works
returns-clause-works g c = statement_works g.S.Store migrate [] c.args.tx.now.conn.now c.execute.new.self.conn.now c.execute.result c.execute.ensures.runs c.execute.ensures.survives
