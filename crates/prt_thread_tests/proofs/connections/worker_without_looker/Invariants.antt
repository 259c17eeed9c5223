use Rattle.prt_thread_tests.proofs.connections.worker_without_looker.Given as goal

abbrev pub ghosts-serve_without_looker : goal.ghosts-serve_without_looker
ghosts-serve_without_looker g a = record { book = a.publisher.line.book; base = a.publisher.line.base; ours_first = a.publisher.ours_first }
