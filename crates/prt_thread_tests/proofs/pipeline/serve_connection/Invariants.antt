use Rattle.prt_thread_tests.proofs.pipeline.serve_connection.Given as goal

abbrev pub ghosts-serve : goal.ghosts-serve
ghosts-serve g a = record { book = a.publisher.line.book; base = a.publisher.line.base; ours_first = a.publisher.ours_first }
