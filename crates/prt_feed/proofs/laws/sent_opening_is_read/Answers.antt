use Rattle.prt_feed.proofs.Sent.{fails_only, reads_back}
use Rattle.prt_feed.proofs.laws.sent_opening_is_read.Goals as goal

pub returns : goal.returns
returns c = record { opening = reads_back; reason = fails_only }
