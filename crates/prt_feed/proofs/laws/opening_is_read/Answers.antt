use Rattle.prt_feed.proofs.Lines.{opening_leads}
use Rattle.prt_feed.proofs.laws.opening_is_read.Goals as goal

pub returns : goal.returns
returns c = opening_leads
