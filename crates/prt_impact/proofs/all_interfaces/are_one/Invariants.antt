use Rattle.std.proofs.Common.{◌≡◌, map, take}
use Rattle.prt_impact.specs.Steps.{with_interfaces}
use Rattle.prt_impact.proofs.all_interfaces.are_one.Given as goal

abbrev pub invariant-loop-i : goal.invariant-loop-i
invariant-loop-i l = take l.i l.groups ≡ map (with_interfaces l.like) (take l.i l.interfaces)
