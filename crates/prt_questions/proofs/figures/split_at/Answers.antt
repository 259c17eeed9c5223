use Rattle.std.proofs.Common.{sym}
use Rattle.prt_questions.proofs.Parts.{no_parts, some_parts}
use Rattle.prt_questions.proofs.figures.split_at.Goals as goal

pub returns-in-Some : goal.returns-in-Some
returns-in-Some c = some_parts c.args.byte c.args.text.now c.in-Some.at (sym c.in-Some.ensures)

pub returns-in-None : goal.returns-in-None
returns-in-None c = no_parts c.args.byte c.args.text.now (sym c.in-None.ensures)
