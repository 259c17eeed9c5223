use Rattle.prt_faults.proofs.quiet.run.Given as goal

abbrev pub ghosts-serve : goal.ghosts-serve
ghosts-serve g a = record { book = a.publisher.line.book; base = a.publisher.line.base; ours_first = a.publisher.ours_first }

abbrev pub ghosts-is_served : goal.ghosts-is_served
ghosts-is_served g a = record { book = a.publisher.line.book; base = a.publisher.line.base; ours_first = a.publisher.ours_first }
