use Rattle.std.proofs.Common.{Ok, inl}
use Rattle.prt_rows.specs.RuleRow.{rule_row}
use Rattle.prt_rows.specs.Statements.{insert_rule, insert_suppress}
use Rattle.prt_rows.specs.SuppressRow.{suppress_row}
use Rattle.prt_store.proofs.Failures.{refuses_then}
use Rattle.prt_store.proofs.Transactions.{statement_works, works_then}
use Rattle.prt_store.specs.Lengths.{length_at}
use Rattle.prt_store.specs.Openings.{Ran}
use Rattle.prt_store.proofs.commit.add_rule.Goals as goal

-- a rule without a length
pub returns-in_default-clause-works : goal.returns-in_default-clause-works
returns-in_default-clause-works g c =
    rw c.in_default.is
    (statement_works g.S.Store insert_rule (rule_row c.args.rule.now) c.args.tx.now.conn.now c.insert_rule.new.tx.conn.now c.insert_rule.result c.insert_rule.ensures.runs c.insert_rule.ensures.survives)

-- a rule, and then its length
pub returns-clause-works : goal.returns-clause-works
returns-clause-works g c =
    let rule = c.args.rule.now in
    let length = length_at rule.id c.in-Some.len in
    let start = c.args.tx.now.conn.now in
    let mid = c.insert_rule-2.new.tx.conn.now in
    let last = c.insert_length.new.tx.conn.now in
    let result = c.insert_length.result in
    let one = statement_works g.S.Store insert_rule (rule_row rule) start mid (Ok c.in_default-insert_rule.field-0) c.in_default-insert_rule.ensures.runs c.in_default-insert_rule.ensures.survives in
    let two = statement_works g.S.Store insert_suppress (suppress_row length) mid last result c.insert_length.ensures.runs c.insert_length.ensures.survives in
    rw c.in-Some.is
    (works_then g.S.Store (Ran g.S.Store insert_rule (rule_row rule)) (Ran g.S.Store insert_suppress (suppress_row length)) start mid last c.in_default-insert_rule.field-0 result one two)

-- a rule whose own row was refused
pub returns-in-Err-clause-fails : goal.returns-in-Err-clause-fails
returns-in-Err-clause-fails g c clean inside = rw c.in-Some.is (inl (c.in-Err.ensures.runs clean inside))

-- a rule whose length was refused
pub returns-clause-fails : goal.returns-clause-fails
returns-clause-fails g c =
    let rule = c.args.rule.now in
    let length = length_at rule.id c.in-Some.len in
    let start = c.args.tx.now.conn.now in
    let mid = c.insert_rule-2.new.tx.conn.now in
    let last = c.insert_length.new.tx.conn.now in
    let result = c.insert_length.result in
    let one = statement_works g.S.Store insert_rule (rule_row rule) start mid (Ok c.in_default-insert_rule.field-0) c.in_default-insert_rule.ensures.runs c.in_default-insert_rule.ensures.survives in
    rw c.in-Some.is
    (refuses_then g.S.Store insert_rule (rule_row rule) length start mid last c.in_default-insert_rule.field-0 result one c.insert_length.ensures.runs c.insert_length.ensures.survives)
