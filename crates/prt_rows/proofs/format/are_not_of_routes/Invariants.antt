use Rattle.std.proofs.Common.{◌≡◌, take, false}
use Rattle.sqlite_rules.specs.Lists.{Has}
use Rattle.sqlite_schema.specs.Rules.{guards}
use Rattle.prt_rows.specs.Tables.{route_table}
use Rattle.prt_rows.proofs.format.are_not_of_routes.Given as goal

abbrev pub invariant-loop-index : goal.invariant-loop-index
invariant-loop-index l = (y : _) → Has (take l.index-index l.indexes) y → guards y route_table ≡ false
