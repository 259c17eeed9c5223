use Rattle.std.proofs.Common.{map, take}
use Rattle.prt_fib.specs.Fib.{Table}
use Rattle.prt_fib.specs.Policy.{AreTablesOf}
use Rattle.prt_fib.proofs.policy.tables_after.Given as goal

abbrev pub invariant-loop-table : goal.invariant-loop-table
invariant-loop-table l = AreTablesOf l.next (map (λ (table : Table). table.packet) (take l.table-index l.tables)) l.after.items
