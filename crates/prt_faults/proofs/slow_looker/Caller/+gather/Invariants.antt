use Rattle.prt_faults.proofs.slow_looker.Caller.+gather.Given as goal

abbrev pub decreases-gather : goal.decreases-gather
decreases-gather g l = l.most
