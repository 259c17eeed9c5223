use Rattle.std.proofs.Common.{take}
use Rattle.prt_impact.specs.Replacing.{ReplacesIfAll}
use Rattle.prt_impact.proofs.all_interfaces.joined_interfaces.Given as goal

abbrev pub invariant-loop-group : goal.invariant-loop-group
invariant-loop-group l = ReplacesIfAll l.interfaces (take l.group-index l.groups) l.joined.items
