use Rattle.std.proofs.Common.{take}
use Rattle.prt_fib.specs.Policy.{AreTablesOf}
use Rattle.prt_fib.proofs.policy.tables_of.Given as goal

abbrev pub invariant-loop-packet : goal.invariant-loop-packet
invariant-loop-packet l = AreTablesOf l.version (take l.packet-index l.packets) l.tables.items
