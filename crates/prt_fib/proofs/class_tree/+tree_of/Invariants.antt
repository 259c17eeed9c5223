use Rattle.std.proofs.Common.{length}
use Rattle.prt_fib.proofs.class_tree.+tree_of.Given as goal

abbrev pub decreases-tree_of : goal.decreases-tree_of
decreases-tree_of l = length l.rules.now
