use Rattle.std.proofs.Common.{◌≡◌, ◌++◌, take}
use Rattle.prt_version.proofs.groups.push_groups.Given as goal

abbrev pub invariant-loop-group : goal.invariant-loop-group
invariant-loop-group l = l.groups.items ≡ l.initial.groups.items ++ take l.group-index l.more
