use Rattle.std.proofs.Common.{◌≡◌, ◌++◌, length, true}
use Rattle.prt_import.specs.Lines.{lines_of}
use Rattle.prt_questions.specs.StatusText.{figures_text}
use Rattle.prt_questions.proofs.figures.push_figures.Given as goal

abbrev pub invariant-loop-line : goal.invariant-loop-line
invariant-loop-line l = l.out.items ++ figures_text l.form l.is_first (lines_of l.rest) ≡ l.fn.out.items ++ figures_text l.form true (lines_of l.said)

abbrev pub decreases-loop-line : goal.decreases-loop-line
decreases-loop-line l = length l.rest
