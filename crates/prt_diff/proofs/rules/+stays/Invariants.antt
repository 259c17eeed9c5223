use Rattle.std.proofs.Common.{length}
use Rattle.prt_diff.proofs.rules.+stays.Given as goal

abbrev pub decreases-stays : goal.decreases-stays
decreases-stays l = length l.found.now
