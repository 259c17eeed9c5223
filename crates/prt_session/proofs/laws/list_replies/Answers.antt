use Rattle.prt_session.proofs.ListRefusals.{list_never}
use Rattle.prt_session.proofs.ListReplies.{list_replies}
use Rattle.prt_session.proofs.laws.list_replies.Goals as goal

pub returns : goal.returns
returns c = record { cause = list_replies; never = list_never }
