use Rattle.std.proofs.Common.{◌≡◌, false, true, subst, sym}
use Rattle.std.specs.Bool.{IsTrue}
use Rattle.prt_feed.specs.Reading.{IsTaken}
use Rattle.prt_feed.proofs.Taking.{now_read, table_line}
use Rattle.prt_feed.proofs.reading.read_tables.Goals as goal

pub returns-then-is_now-clause-tables : goal.returns-then-is_now-clause-tables
returns-then-is_now-clause-tables g c =
    let taken = subst (IsTaken _ _) (sym c.as_slice-text.ensures.value) (c.next_line.ensures c.if-not-next_line.false) in
    now_read _ _ _ c.loop-count.tables c.as_slice-text.result.now c.loop-count._count c.loop-count.invariant taken (c.is_now.ensures.0 c.if-is_now.true)

pub loop-count-preserved : goal.loop-count-preserved
loop-count-preserved g c =
    let taken = subst (IsTaken _ _) (sym c.as_slice-text.ensures.value) (c.next_line.ensures c.if-not-next_line.false) in
    table_line _ _ _ c.loop-count.tables _ c.as_slice-text.result.now c.loop-count._count c.loop-count.invariant taken
    (λ same. let h : false ≡ true = subst IsTrue c.if-is_now.false (c.is_now.ensures.1 same) in absurd cc) c.in_ok-tables.ensures.allowed c.in_ok-tables.ensures.value
