use Rattle.std.proofs.Common.{◌≡◌, take}
use Rattle.prt_version.specs.Groups.{joined}
use Rattle.prt_version.proofs.groups.all_tables.Given as goal

abbrev pub invariant-loop-group : goal.invariant-loop-group
invariant-loop-group l = l.tables.items ≡ joined (take l.group-index l.groups)
