use Rattle.std.proofs.Common.{refl}
use Rattle.std.specs.Fmt.{digits}
use Rattle.prt_command.specs.Lines.{lines_of}
use Rattle.prt_session.specs.Form.{numbered_from}
use Rattle.prt_session.specs.Session.{line_turn, session, session_lines, stops_after}
use Rattle.prt_session.proofs.examples.checked_lines.Goals as goal

pub returns-clause-refusals : goal.returns-clause-refusals
unfolding session session_lines lines_of line_turn stops_after numbered_from digits
returns-clause-refusals c = refl

pub returns-clause-read_fault : goal.returns-clause-read_fault
unfolding session session_lines lines_of line_turn stops_after numbered_from digits
returns-clause-read_fault c = refl
