use Rattle.std.proofs.Common.{sym, ◌∙◌, length}
use Rattle.prt_command.proofs.Splitting.{some_of}
use Rattle.prt_import.proofs.Cuts.{cut_at, last_line}
use Rattle.prt_import.proofs.lines.next_line.Goals as goal

pub returns-in-Some : goal.returns-in-Some
returns-in-Some c = cut_at c.args.text.now c.in-Some.at (sym c.in-Some.ensures)

pub returns-in-None : goal.returns-in-None
returns-in-None c = last_line c.args.text.now (some_of (length c.args.text.now) (sym c.is_empty.ensures ∙ c.if-is_empty.false)) (sym c.in-None.ensures)
