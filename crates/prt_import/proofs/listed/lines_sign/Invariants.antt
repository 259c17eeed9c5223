use Rattle.std.proofs.Common.{◌≡◌, length}
use Rattle.prt_import.specs.Lines.{lines_of}
use Rattle.prt_import.specs.Listed.{lines_sign}
use Rattle.prt_import.proofs.listed.lines_sign.Given as goal

abbrev pub invariant-loop-line : goal.invariant-loop-line
invariant-loop-line l = lines_sign (lines_of l.fn.text) ≡ lines_sign (lines_of l.rest)

abbrev pub decreases-loop-line : goal.decreases-loop-line
decreases-loop-line l = length l.rest
