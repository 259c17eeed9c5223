use Rattle.std.proofs.Common.{rules}
use Rattle.prt_rows.specs.Kept.{id_values}
use Rattle.prt_rows.specs.Statements.{delete_rule}
use Rattle.prt_store.proofs.Transactions.{runs_with}
use Rattle.prt_store.proofs.statements.delete_rule.Goals as goal

pub returns-clause-runs : goal.returns-clause-runs
returns-clause-runs g c =
    runs_with g.S.Store delete_rule _ (id_values c.args.id) c.args.tx.now.conn.now c.execute.new.self.conn.now c.execute.result c.execute.ensures.runs (search rules)
