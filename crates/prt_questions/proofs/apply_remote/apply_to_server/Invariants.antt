use Rattle.std.proofs.Common.{◌≡◌}
use Rattle.prt_questions.proofs.apply_remote.apply_to_server.Given as goal

-- nothing is printed yet
abbrev pub invariant-loop : goal.invariant-loop
invariant-loop g l = g.W.Write.contents l.output ≡ g.W.Write.contents l.fn.output
