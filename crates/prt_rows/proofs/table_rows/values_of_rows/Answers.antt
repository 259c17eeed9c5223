use Rattle.std.proofs.Common.{inl, inr, refl}
use Rattle.prt_rows.proofs.Decodes.{none_here, one_more}
use Rattle.prt_rows.proofs.table_rows.values_of_rows.Goals as goal

pub loop-row-preserved : goal.loop-row-preserved
loop-row-preserved g c =
    one_more g.R.RowReader.row_of (g.R.RowReader.Fits c.args.reader.now) g.R.RowReader.part c.args.rows.now c.loop-row.row-index c.row-item.result c.loop-row-test.true c.row-item.is
    c.loop-row.values.items c.push.new.self.items c.in-Some.value c.in-Some.ensures c.in_ok-push.ensures.items c.loop-row.invariant

pub returns-in_default-clause-err : goal.returns-in_default-clause-err
returns-in_default-clause-err g c =
    inr (inl (refl, none_here g.R.RowReader.row_of (g.R.RowReader.Fits c.args.reader.now) g.R.RowReader.part c.args.rows.now c.loop-row.row-index c.row-item.result c.loop-row-test.true c.row-item.is c.in_default.ensures))
