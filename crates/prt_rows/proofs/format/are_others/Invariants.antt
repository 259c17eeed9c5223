use Rattle.std.proofs.Common.{take}
use Rattle.sqlite_rules.specs.Lists.{Has}
use Rattle.prt_rows.specs.Others.{IsOther}
use Rattle.prt_rows.proofs.format.are_others.Given as goal

abbrev pub invariant-loop-table : goal.invariant-loop-table
invariant-loop-table l = (y : _) → Has (take l.table-index l.tables) y → IsOther y
