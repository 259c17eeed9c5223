use Rattle.prt_rows.specs.MetaRow.{meta_row}
use Rattle.prt_rows.specs.Statements.{insert_meta}
use Rattle.prt_store.proofs.Transactions.{works_then}
use Rattle.prt_store.specs.Openings.{InsertsRules, Ran}
use Rattle.prt_store.proofs.opening.fill.Goals as goal

pub returns-clause-works : goal.returns-clause-works
returns-clause-works g c =
    works_then g.S.Store (InsertsRules g.S.Store) (Ran g.S.Store insert_meta (meta_row 0)) c.args.tx.now.conn.now c.insert_rules.new.tx.conn.now c.insert_count.new.tx.conn.now
    c.in_ok-insert_rules.field-0 c.insert_count.result c.in_ok-insert_rules.ensures.works c.insert_count.ensures.works
