use Rattle.std.proofs.Common.{◌≡◌, length}
use Rattle.std.specs.List.{list_any}
use Rattle.prt_import.specs.Lines.{lines_of}
use Rattle.prt_questions.specs.Asking.{adds}
use Rattle.prt_questions.proofs.importing.adds_any.Given as goal

abbrev pub invariant-loop-line : goal.invariant-loop-line
invariant-loop-line l = list_any adds (lines_of l.script) ≡ list_any adds (lines_of l.rest)

abbrev pub decreases-loop-line : goal.decreases-loop-line
decreases-loop-line l = length l.rest
