use Rattle.std.proofs.Common.{◌≡◌, take}
use Rattle.prt_version.specs.Tables.{tables_after}
use Rattle.prt_version.proofs.shared_table.tables_after.Given as goal

abbrev pub invariant-loop-table : goal.invariant-loop-table
invariant-loop-table l = l.after.items ≡ tables_after l.edit (take l.table-index l.tables)
