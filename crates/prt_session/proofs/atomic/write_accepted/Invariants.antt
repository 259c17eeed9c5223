use Rattle.std.specs.Io.KnownBytes.{Appends}
use Rattle.prt_session.specs.Atomic.{accepted_after}
use Rattle.prt_replies.specs.Reply.{replies_text}
use Rattle.prt_session.proofs.atomic.write_accepted.Given as goal

abbrev pub invariant-loop-done : goal.invariant-loop-done
invariant-loop-done g l = Appends (g.W.Write.contents l.initial.writer) (g.W.Write.contents l.writer) (replies_text (accepted_after l.number l.done))
