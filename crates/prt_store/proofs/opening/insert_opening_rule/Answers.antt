use Rattle.prt_rows.specs.RuleRow.{rule_row}
use Rattle.prt_rows.specs.Statements.{insert_rule}
use Rattle.prt_store.proofs.Transactions.{statement_works}
use Rattle.prt_store.proofs.opening.insert_opening_rule.Goals as goal

pub returns-clause-works : goal.returns-clause-works
returns-clause-works g c = statement_works g.S.Store insert_rule (rule_row c.args.rule.now) c.args.tx.now.conn.now c.insert_rule.new.tx.conn.now c.insert_rule.result c.insert_rule.ensures.runs c.insert_rule.ensures.survives
