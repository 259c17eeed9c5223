use Rattle.prt_session.proofs.ClosedReplies.{closed_session}
use Rattle.prt_session.proofs.laws.closed_replies.Goals as goal

pub returns : goal.returns
returns c = record {
  closed = λ desk input mode mishaps is. (closed_session desk input mode mishaps is).refuses;
  same = λ desk input mode mishaps is. (closed_session desk input mode mishaps is).same;
}
