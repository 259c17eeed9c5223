use Rattle.prt_session.specs.Desk.{request_turn}
use Rattle.prt_session.proofs.Length.{session_taken}
use Rattle.prt_session.proofs.laws.session_ends.Goals as goal

pub returns : goal.returns
returns c = session_taken request_turn
