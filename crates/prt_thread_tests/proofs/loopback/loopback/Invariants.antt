use Rattle.prt_thread_tests.proofs.loopback.loopback.Given as goal

abbrev pub ghosts-converse_with : goal.ghosts-converse_with
ghosts-converse_with g a = record { book = a.publisher.line.book; base = a.publisher.line.base; ours_first = a.publisher.ours_first }
