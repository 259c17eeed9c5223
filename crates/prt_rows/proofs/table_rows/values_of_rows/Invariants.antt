use Rattle.std.proofs.Common.{map, All, Some, take}
use Rattle.prt_rows.specs.Decodes.{Decodes}
use Rattle.prt_rows.proofs.table_rows.values_of_rows.Given as goal

abbrev pub invariant-loop-row : goal.invariant-loop-row
invariant-loop-row g l = Decodes (map g.R.RowReader.row_of) (All (g.R.RowReader.Fits l.reader)) (take l.row-index (map g.R.RowReader.part l.rows)) (Some l.values.items)
