use Rattle.std.proofs.Common.{true}
use Rattle.prt_serve.specs.Feed.{Tells}
use Rattle.prt_serve.proofs.feed.tell_on.Given as goal

-- what it learned was written
abbrev pub invariant-loop : goal.invariant-loop
invariant-loop g l = Tells l.initial.follower l.follower true (g.W.Write.contents l.initial.writer) (g.W.Write.contents l.writer)
