use Rattle.prt_replies.proofs.Known.{nothing_keeps}
use Rattle.prt_replies.proofs.reply.write_some.Goals as goal

pub returns-in-Ok-eq0-clause-none : goal.returns-in-Ok-eq0-clause-none
returns-in-Ok-eq0-clause-none g c = nothing_keeps (g.W.Write.contents c.args.writer.now) (g.W.Write.contents c.write.new.self) (rw c.in-Ok-eq0.field-0-test at c.in-Ok-eq0.ensures.bytes)
