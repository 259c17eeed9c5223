use Rattle.prt_diff.proofs.routes.+push_highest_first.Given as goal

abbrev pub decreases-push_highest_first : goal.decreases-push_highest_first
decreases-push_highest_first l = l.n
