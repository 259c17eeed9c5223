use Rattle.std.proofs.Common.{drop, take}
use Rattle.prt_replies.proofs.Known.{appends_then_keeps, split_at, wrote_more, within_more}
use Rattle.prt_replies.proofs.reply.write_bytes.Goals as goal

pub loop-written-preserved : goal.loop-written-preserved
loop-written-preserved g c = record {
  within = within_more c.args.bytes.now c.loop-written.written c.in-Some.count c.loop-written.invariant.within c.in-Some.ensures.some.1;
  wrote = wrote_more (g.W.Write.contents c.args.writer.now) (g.W.Write.contents c.loop-written.writer) (g.W.Write.contents c.write_some.new.writer) c.args.bytes.now c.loop-written.written c.in-Some.count c.loop-written.invariant.wrote c.in-Some.ensures.some.2;
}

pub returns-in-None : goal.returns-in-None
returns-in-None g c = (
  take c.loop-written.written c.args.bytes.now,
  drop c.loop-written.written c.args.bytes.now,
  split_at c.args.bytes.now c.loop-written.written,
  appends_then_keeps (g.W.Write.contents c.args.writer.now) (g.W.Write.contents c.loop-written.writer) (g.W.Write.contents c.write_some.new.writer) _ c.loop-written.invariant.wrote c.in-None.ensures.none,
)
