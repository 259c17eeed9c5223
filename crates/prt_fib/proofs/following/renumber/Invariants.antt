use Rattle.std.specs.Arc.{arc_value}
use Rattle.prt_fib.specs.Following.{AreRenumbered}
use Rattle.prt_fib.proofs.following.renumber.Given as goal

abbrev pub invariant-loop-place : goal.invariant-loop-place
invariant-loop-place l = AreRenumbered l.version l.packet l.starts l.first l.place l.initial.numbers.items l.numbers.items (arc_value l.initial.outcomes) (arc_value l.outcomes)
