use Rattle.std.proofs.Common.{sym}
use Rattle.prt_feed.proofs.Spaces.{cut_at}
use Rattle.prt_feed.proofs.change.at_space.Goals as goal

pub returns-in-Some : goal.returns-in-Some
returns-in-Some c = cut_at c.args.line.now c.in-Some.at (sym c.in-Some.ensures)
