use Rattle.std.proofs.Common.{◌≡◌, ◌++◌, length}
use Rattle.prt_command.specs.Reading.{words}
use Rattle.prt_import.specs.Comments.{spaced_words}
use Rattle.prt_import.proofs.comments.spaced_words.Given as goal

abbrev pub invariant-loop-word : goal.invariant-loop-word
invariant-loop-word l = spaced_words (words l.fn.line) ≡ l.made.items ++ spaced_words (words l.rest)

abbrev pub decreases-loop-word : goal.decreases-loop-word
decreases-loop-word l = length l.rest
