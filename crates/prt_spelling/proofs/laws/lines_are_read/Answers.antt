use Rattle.prt_spelling.proofs.Lines.{line_read_by}
use Rattle.prt_spelling.proofs.laws.lines_are_read.Goals as goal

pub returns : goal.returns
returns c = λ form command fits spelled. (line_read_by form command fits spelled).reads
