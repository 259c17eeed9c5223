use Rattle.std.proofs.Common.{◌≡◌, ◌++◌, filter, take}
use Rattle.prt_route.specs.RouteChoice.{is_selected}
use Rattle.prt_version.specs.Tables.{all_rows}
use Rattle.prt_version.proofs.shared_table.push_selected.Given as goal

abbrev pub invariant-loop-table : goal.invariant-loop-table
invariant-loop-table l = l.rows.items ≡ l.initial.rows.items ++ filter (is_selected l.selector) (all_rows (take l.table-index l.tables))
