use Rattle.prt_feed.proofs.Lines.{changes_lead}
use Rattle.prt_feed.proofs.laws.changes_are_followed.Goals as goal

pub returns : goal.returns
returns c = changes_lead
