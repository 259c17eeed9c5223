use Rattle.std.proofs.Common.{◌≡◌, None, drop}
use Rattle.prt_rows.specs.Rowids.{rise_from}
use Rattle.prt_rows.proofs.table_rows.rowids_rise.Given as goal

abbrev pub invariant-loop-row : goal.invariant-loop-row
invariant-loop-row l = rise_from None l.rows ≡ rise_from l.last (drop l.row-index l.rows)
