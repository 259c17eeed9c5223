use Rattle.std.proofs.Common.{◌≡◌, length, map, take}
use Rattle.prt_impact.specs.Steps.{with_block}
use Rattle.prt_impact.proofs.mark_joining.front_blocks.Given as goal

abbrev pub invariant-loop-group : goal.invariant-loop-group
invariant-loop-group l = record { long : length l.blocks.items ≡ l.group-index; same : take l.group-index l.groups ≡ map (with_block l.like) l.blocks.items }
