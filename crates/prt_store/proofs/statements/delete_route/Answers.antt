use Rattle.std.proofs.Common.{rules}
use Rattle.prt_rows.specs.Kept.{key_values}
use Rattle.prt_rows.specs.Statements.{delete_route}
use Rattle.prt_store.proofs.Transactions.{runs_with}
use Rattle.prt_store.proofs.statements.delete_route.Goals as goal

pub returns-clause-runs : goal.returns-clause-runs
returns-clause-runs g c =
    runs_with g.S.Store delete_route _ (key_values c.args.key.now) c.args.tx.now.conn.now c.execute.new.self.conn.now c.execute.result c.execute.ensures.runs (search rules)
