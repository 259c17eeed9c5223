use Rattle.std.proofs.Common.{refl}
use Rattle.std.specs.Fmt.{digits}
use Rattle.prt_command.specs.Lines.{lines_of}
use Rattle.prt_replies.specs.Reply.{replies_text}
use Rattle.prt_session.specs.Session.{line_turn, session, session_lines, stops_after}
use Rattle.prt_session.proofs.examples.line_limits.Goals as goal

pub returns-clause-longest : goal.returns-clause-longest
unfolding session session_lines lines_of line_turn stops_after replies_text digits
returns-clause-longest c = refl

pub returns-clause-longest_ended : goal.returns-clause-longest_ended
unfolding session session_lines lines_of line_turn stops_after replies_text digits
returns-clause-longest_ended c = refl

pub returns-clause-too_long : goal.returns-clause-too_long
unfolding session session_lines lines_of line_turn stops_after replies_text digits
returns-clause-too_long c = refl

pub returns-clause-endless : goal.returns-clause-endless
unfolding session session_lines lines_of line_turn stops_after replies_text digits
returns-clause-endless c = refl

pub returns-clause-unread : goal.returns-clause-unread
unfolding session session_lines lines_of line_turn stops_after replies_text digits
returns-clause-unread c = refl
