use Rattle.prt_host.proofs.server.take_seats_and_serve.Given as goal

abbrev pub ghosts-run_service : goal.ghosts-run_service
ghosts-run_service g a = record { book = a.publisher.line.book; base = a.publisher.line.base; ours_first = a.publisher.ours_first }
