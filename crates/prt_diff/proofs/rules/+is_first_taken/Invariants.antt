use Rattle.std.proofs.Common.{length}
use Rattle.prt_diff.proofs.rules.+is_first_taken.Given as goal

abbrev pub decreases-is_first_taken : goal.decreases-is_first_taken
decreases-is_first_taken l = length l.rules.now
