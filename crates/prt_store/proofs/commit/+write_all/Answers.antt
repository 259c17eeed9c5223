use Rattle.prt_store.proofs.Failures.{fails_then}
use Rattle.prt_store.proofs.Transactions.{works_then}
use Rattle.prt_store.specs.Made.{WritesAll, WritesRows}
use Rattle.prt_store.proofs.commit.+write_all.Goals as goal

pub returns-in_default-clause-works : goal.returns-in_default-clause-works
returns-in_default-clause-works g t c =
    let first = c.in-Some.first.now in
    let rest = c.in-Some.rest.now in
    let old = c.args.tx.now.conn.now in
    let mid = c.write.new.tx.conn.now in
    let last = c.write_all.new.tx.conn.now in
    rw c.in-Some.ensures.cases.0
    (works_then g.S.Store (WritesRows g.S.Store first) (WritesAll g.S.Store rest) old mid last c.in_default.field-0 c.write_all.result c.in_default.ensures.works c.write_all.ensures.works)

pub returns-in_default-clause-fails : goal.returns-in_default-clause-fails
returns-in_default-clause-fails g t c =
    let first = c.in-Some.first.now in
    let rest = c.in-Some.rest.now in
    let old = c.args.tx.now.conn.now in
    let mid = c.write.new.tx.conn.now in
    let last = c.write_all.new.tx.conn.now in
    rw c.in-Some.ensures.cases.0
    (fails_then g.S.Store first rest old mid last c.in_default.field-0 c.write_all.result c.in_default.ensures.works c.write_all.ensures.works.quiet c.write_all.ensures.fails)
