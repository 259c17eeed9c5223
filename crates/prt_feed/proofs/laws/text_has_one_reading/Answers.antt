use Rattle.prt_feed.proofs.Texts.{one_reading}
use Rattle.prt_feed.proofs.laws.text_has_one_reading.Goals as goal

pub returns : goal.returns
returns c = one_reading
