use Rattle.std.proofs.Common.{take}
use Rattle.sqlite_rules.specs.Lists.{Has}
use Rattle.prt_rows.specs.Format.{SuitsName}
use Rattle.prt_rows.proofs.format.suit_names.Given as goal

abbrev pub invariant-loop-table : goal.invariant-loop-table
invariant-loop-table l = (y : _) → Has (take l.table-index l.tables) y → SuitsName y
