use Rattle.std.proofs.Common.{◌++◌, length}
use Rattle.prt_impact.specs.Replacing.{AlwaysReplaces}
use Rattle.prt_impact.proofs.mark_joining.joined_marks.Given as goal

abbrev pub invariant-loop-first : goal.invariant-loop-first
invariant-loop-first l = AlwaysReplaces l.groups (l.joined.items ++ l.rest)

abbrev pub decreases-loop-first : goal.decreases-loop-first
decreases-loop-first l = length l.rest
