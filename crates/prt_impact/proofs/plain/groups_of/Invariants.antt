use Rattle.std.proofs.Common.{take}
use Rattle.prt_impact.proofs.BoxGroups.{Cover}
use Rattle.prt_impact.proofs.plain.groups_of.Given as goal

abbrev pub invariant-loop-one : goal.invariant-loop-one
invariant-loop-one l = Cover l.sameness l.before l.after (take l.one-index l.boxes) l.groups.items
