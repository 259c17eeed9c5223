use Rattle.std.proofs.Common.{sym}
use Rattle.prt_lines.proofs.Lines.{cut_at, none_at}
use Rattle.prt_lines.proofs.chunk.first_line.Goals as goal

pub returns-in-Some : goal.returns-in-Some
returns-in-Some c = cut_at c.args.text.now c.in-Some.at (sym c.in-Some.ensures)

pub returns-in-None : goal.returns-in-None
returns-in-None c = none_at c.args.text.now (sym c.in-None.ensures)
