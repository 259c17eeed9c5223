use Rattle.std.proofs.Common.{rules}
use Rattle.prt_rows.specs.Kept.{count_values}
use Rattle.prt_rows.specs.Statements.{set_count}
use Rattle.prt_store.proofs.Transactions.{runs_with}
use Rattle.prt_store.proofs.statements.set_count.Goals as goal

pub returns-clause-runs : goal.returns-clause-runs
returns-clause-runs g c =
    runs_with g.S.Store set_count _ (count_values c.args.count) c.args.tx.now.conn.now c.execute.new.self.conn.now c.execute.result c.execute.ensures.runs (search rules)
