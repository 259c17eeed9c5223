use Rattle.std.proofs.Common.{rules}
use Rattle.std.proofs.lemmas.Bool.{iff_false}
use Rattle.prt_rows.specs.Format.{SuitsName}
use Rattle.prt_rows.proofs.Formats.{each_more, each_of_all, is_not, is_so, not_of_all}
use Rattle.prt_rows.proofs.format.suit_names.Goals as goal

pub loop-table-preserved : goal.loop-table-preserved
loop-table-preserved c = each_more SuitsName c.args.tables.now c.loop-table.table-index c.table-item.result c.loop-table-test.true c.table-item.is (c.suits_name.ensures.0 c.if-not-suits_name.false) c.loop-table.invariant

pub returns-then-not-suits_name : goal.returns-then-not-suits_name
returns-then-not-suits_name c = is_not (not_of_all SuitsName c.args.tables.now c.loop-table.table-index c.table-item.result c.loop-table-test.true c.table-item.is (iff_false c.suits_name.ensures c.if-not-suits_name.true))

pub returns : goal.returns
returns c = is_so (each_of_all SuitsName c.args.tables.now c.loop-table.table-index (search rules) c.loop-table.invariant)
