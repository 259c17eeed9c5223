use Rattle.std.proofs.Common.{refl}
use Rattle.std.specs.Fmt.{digits}
use Rattle.prt_command.specs.Lines.{lines_of}
use Rattle.prt_replies.specs.Reply.{replies_text}
use Rattle.prt_session.specs.Session.{line_turn, session, session_lines, stops_after}
use Rattle.prt_session.proofs.examples.mishaps.Goals as goal

pub returns-clause-read_fault : goal.returns-clause-read_fault
unfolding session session_lines lines_of line_turn stops_after replies_text digits
returns-clause-read_fault c = refl

pub returns-clause-no_memory : goal.returns-clause-no_memory
unfolding session session_lines lines_of line_turn stops_after replies_text digits
returns-clause-no_memory c = refl

pub returns-clause-closed : goal.returns-clause-closed
unfolding session session_lines lines_of line_turn stops_after replies_text digits
returns-clause-closed c = refl

pub returns-clause-kept : goal.returns-clause-kept
unfolding session session_lines lines_of line_turn stops_after replies_text digits
returns-clause-kept c = refl
