use Rattle.std.proofs.Common.{refl}
use Rattle.std.specs.Fmt.{digits}
use Rattle.prt_command.specs.Lines.{lines_of}
use Rattle.prt_replies.specs.Reply.{replies_text}
use Rattle.prt_session.specs.Session.{line_turn, session, session_lines, stops_after}
use Rattle.prt_session.proofs.examples.atomic_files.Goals as goal

pub returns-clause-atomic_ok : goal.returns-clause-atomic_ok
unfolding session session_lines lines_of line_turn stops_after replies_text digits
returns-clause-atomic_ok c = refl

pub returns-clause-atomic_refused : goal.returns-clause-atomic_refused
unfolding session session_lines lines_of line_turn stops_after replies_text digits
returns-clause-atomic_refused c = refl

pub returns-clause-none_made : goal.returns-clause-none_made
unfolding session session_lines lines_of line_turn stops_after replies_text digits
returns-clause-none_made c = refl

pub returns-clause-atomic_first_fault : goal.returns-clause-atomic_first_fault
unfolding session session_lines lines_of line_turn stops_after replies_text digits
returns-clause-atomic_first_fault c = refl

pub returns-clause-atomic_query : goal.returns-clause-atomic_query
unfolding session session_lines lines_of line_turn stops_after replies_text digits
returns-clause-atomic_query c = refl

pub returns-clause-atomic_limit : goal.returns-clause-atomic_limit
unfolding session session_lines lines_of line_turn stops_after replies_text digits
returns-clause-atomic_limit c = refl
