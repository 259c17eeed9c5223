use Rattle.std.proofs.Common.{◌≡◌, ◌++◌, map, take}
use Rattle.prt_impact.specs.Steps.{group_of}
use Rattle.prt_impact.proofs.plain.push_each.Given as goal

abbrev pub invariant-loop-difference : goal.invariant-loop-difference
invariant-loop-difference l = l.groups.items ≡ l.fn.groups.items ++ map (group_of l.one) (take l.difference-index l.differences)
