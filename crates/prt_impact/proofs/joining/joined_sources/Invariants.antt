use Rattle.std.proofs.Common.{take}
use Rattle.prt_impact.specs.Replacing.{AlwaysReplaces}
use Rattle.prt_impact.proofs.joining.joined_sources.Given as goal

abbrev pub invariant-loop-group : goal.invariant-loop-group
invariant-loop-group l = AlwaysReplaces (take l.group-index l.groups) l.joined.items
