use Rattle.std.proofs.Common.{refl}
use Rattle.prt_command.specs.Lines.{lines_of}
use Rattle.prt_session.specs.Session.{line_turn, session, session_lines, stops_after}
use Rattle.prt_session.proofs.examples.unread_rest.Goals as goal

pub returns : goal.returns
unfolding session session_lines lines_of line_turn stops_after
returns c = refl
