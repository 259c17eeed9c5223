use Rattle.std.proofs.Common.{◌≡◌, ◌++◌, map, take}
use Rattle.prt_impact.specs.Steps.{with_marks}
use Rattle.prt_impact.proofs.mark_joining.push_sets.Given as goal

abbrev pub invariant-loop-set : goal.invariant-loop-set
invariant-loop-set l = l.groups.items ≡ l.fn.groups.items ++ map (with_marks l.like) (take l.set-index l.sets)
