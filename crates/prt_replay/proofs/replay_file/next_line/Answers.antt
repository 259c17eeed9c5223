use Rattle.std.proofs.Common.{sym, ◌∙◌}
use Rattle.prt_command.proofs.Splitting.{some_of, zero_of}
use Rattle.prt_replay.proofs.FileLines.{last_line, line_at, no_lines}
use Rattle.prt_replay.proofs.replay_file.next_line.Goals as goal

pub returns-in-Some : goal.returns-in-Some
returns-in-Some c = line_at c.args.bytes.now c.in-Some.at (sym c.in-Some.ensures)

pub returns-in-None : goal.returns-in-None
returns-in-None c = no_lines c.args.bytes.now (zero_of _ (sym c.is_empty.ensures ∙ c.if-is_empty.true))

pub returns-in-None-2 : goal.returns-in-None-2
returns-in-None-2 c = last_line c.args.bytes.now (some_of _ (sym c.is_empty.ensures ∙ c.if-is_empty.false)) (sym c.in-None.ensures)
