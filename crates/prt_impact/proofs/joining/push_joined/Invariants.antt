use Rattle.std.proofs.Common.{[], ◌∷◌, ◌++◌, length}
use Rattle.prt_impact.specs.Replacing.{AlwaysReplaces}
use Rattle.prt_impact.proofs.joining.push_joined.Given as goal

abbrev pub invariant-loop-joined : goal.invariant-loop-joined
invariant-loop-joined l = AlwaysReplaces (l.fn.groups.items ++ l.fn.group ∷ []) (l.groups.items ++ l.whole ∷ [])

abbrev pub decreases-loop-joined : goal.decreases-loop-joined
decreases-loop-joined l = length l.groups.items
