use Rattle.std.specs.Prelude.{length}
use Rattle.prt_partition.proofs.joining.+push_joined.Given as goal

abbrev pub decreases-push_joined : goal.decreases-push_joined
decreases-push_joined l = length l.rules.now
