use Rattle.std.proofs.Common.{◌≡◌, ◌++◌, filter, length}
use Rattle.prt_listing.specs.QueryText.{lines_text}
use Rattle.prt_import.specs.Comments.{concerns, left_out}
use Rattle.prt_import.specs.Lines.{lines_of}
use Rattle.prt_import.proofs.comments.left_out.Given as goal

abbrev pub invariant-loop-line : goal.invariant-loop-line
invariant-loop-line l = left_out l.destination l.fn.script ≡ l.lines.items ++ lines_text (filter (concerns l.destination) (lines_of l.rest))

abbrev pub decreases-loop-line : goal.decreases-loop-line
decreases-loop-line l = length l.rest
