use Rattle.std.proofs.Common.{◌≡◌, ◌++◌, filter, take}
use Rattle.prt_route.specs.RouteChoice.{is_selected}
use Rattle.prt_version.specs.Groups.{joined}
use Rattle.prt_version.specs.Tables.{all_rows}
use Rattle.prt_version.proofs.groups.push_selected_of_all.Given as goal

abbrev pub invariant-loop-group : goal.invariant-loop-group
invariant-loop-group l = l.rows.items ≡ l.initial.rows.items ++ filter (is_selected l.selector) (all_rows (joined (take l.group-index l.groups)))
