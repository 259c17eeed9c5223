use Rattle.prt_feed.proofs.Texts.{is_followed}
use Rattle.prt_feed.proofs.laws.feed_is_followed.Goals as goal

pub returns : goal.returns
returns c = is_followed
