use Rattle.std.proofs.Common.{take}
use Rattle.prt_serve.proofs.Resuming.{gone_more, none_gone}
use Rattle.prt_serve.proofs.atomic.drain.Goals as goal

pub loop-init : goal.loop-init
loop-init g c = none_gone (g.R.Read.remaining c.args.reader.now)

pub loop-preserved : goal.loop-preserved
loop-preserved g c =
    gone_more (g.R.Read.remaining c.args.reader.now) (g.R.Read.remaining c.loop.reader) (g.R.Read.remaining c.read.new.self) (take c.in-Ok.field-0 c.read.new.buf) c.loop.invariant c.in-Ok.ensures.bytes.0
