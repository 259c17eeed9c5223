use Rattle.std.proofs.Common.{◌≡◌, length, take}
use Rattle.prt_version.specs.Tables.{all_rows}
use Rattle.prt_version.proofs.shared_table.count_rows.Given as goal

abbrev pub invariant-loop-table : goal.invariant-loop-table
invariant-loop-table l = l.count ≡ length (all_rows (take l.table-index l.tables))
