use Rattle.prt_thread_tests.proofs.followers.fall_behind_over.Given as goal

abbrev pub ghosts-fall_behind : goal.ghosts-fall_behind
ghosts-fall_behind g a = record { book = a.publisher.line.book; base = a.publisher.line.base; ours_first = a.publisher.ours_first }
