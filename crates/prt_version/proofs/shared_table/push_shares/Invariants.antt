use Rattle.std.proofs.Common.{◌≡◌, ◌++◌, take}
use Rattle.prt_version.proofs.shared_table.push_shares.Given as goal

abbrev pub invariant-loop-table : goal.invariant-loop-table
invariant-loop-table l = l.tables.items ≡ l.initial.tables.items ++ take l.table-index l.more
