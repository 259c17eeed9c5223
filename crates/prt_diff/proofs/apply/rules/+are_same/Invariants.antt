use Rattle.std.proofs.Common.{length}
use Rattle.prt_diff.proofs.apply.rules.+are_same.Given as goal

abbrev pub decreases-are_same : goal.decreases-are_same
decreases-are_same l = length l.rules.now
