use Rattle.std.proofs.Common.{◌≡◌, length}
use Rattle.prt_import.specs.Lines.{lines_of}
use Rattle.prt_import.specs.Listed.{any_has}
use Rattle.prt_import.proofs.listed.Feature.is_in.Given as goal

abbrev pub invariant-loop-line : goal.invariant-loop-line
invariant-loop-line l = any_has l.self (lines_of l.fn.text) ≡ any_has l.self (lines_of l.rest)

abbrev pub decreases-loop-line : goal.decreases-loop-line
decreases-loop-line l = length l.rest
