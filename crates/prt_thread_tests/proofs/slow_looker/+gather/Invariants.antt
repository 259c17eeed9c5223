use Rattle.prt_thread_tests.proofs.slow_looker.+gather.Given as goal

abbrev pub decreases-gather : goal.decreases-gather
decreases-gather g l = l.most
