use Rattle.std.proofs.Common.{Some, inr}
use Rattle.prt_serve.proofs.feed.write_together.Goals as goal

pub returns : goal.returns
returns g c = inr (Some c.args.count, c.write_count.ensures)
