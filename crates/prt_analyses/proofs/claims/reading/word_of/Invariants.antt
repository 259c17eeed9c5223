use Rattle.std.proofs.Common.{◌≡◌, length}
use Rattle.prt_command.specs.Reading.{words}
use Rattle.prt_analyses.specs.Claims.Reading.{word_of}
use Rattle.prt_analyses.proofs.claims.reading.word_of.Given as goal

abbrev pub invariant-loop-word : goal.invariant-loop-word
invariant-loop-word l = word_of l.left (words l.rest) ≡ word_of l.number (words l.text)

abbrev pub decreases-loop-word : goal.decreases-loop-word
decreases-loop-word l = length l.rest
