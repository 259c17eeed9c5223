use Rattle.prt_thread_tests.proofs.overlap.overlapping_sessions.Given as goal

abbrev pub ghosts-meet : goal.ghosts-meet
ghosts-meet g a = record { book = a.publisher.line.book; base = a.publisher.line.base; ours_first = a.publisher.ours_first }
