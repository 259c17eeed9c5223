use Rattle.std.proofs.Common.{rules}
use Rattle.std.proofs.lemmas.Bool.{iff_false}
use Rattle.prt_rows.specs.Others.{IsOther}
use Rattle.prt_rows.proofs.Formats.{are_others, each_more, each_of_all, each_other, is_not, is_so, not_of_all}
use Rattle.prt_rows.proofs.format.are_others.Goals as goal

pub loop-table-preserved : goal.loop-table-preserved
loop-table-preserved c = each_more IsOther c.args.tables.now c.loop-table.table-index c.table-item.result c.loop-table-test.true c.table-item.is (c.is_other.ensures.0 c.if-not-is_other.false) c.loop-table.invariant

pub returns-then-not-is_other : goal.returns-then-not-is_other
returns-then-not-is_other c = is_not (λ others. not_of_all IsOther c.args.tables.now c.loop-table.table-index c.table-item.result c.loop-table-test.true c.table-item.is (iff_false c.is_other.ensures c.if-not-is_other.true) (each_other c.args.tables.now others))

pub returns : goal.returns
returns c = is_so (are_others c.args.tables.now (each_of_all IsOther c.args.tables.now c.loop-table.table-index (search rules) c.loop-table.invariant))
