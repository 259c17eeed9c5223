use Rattle.std.proofs.Common.{◌≡◌, ◌+◌, ◌≤◌, length}
use Rattle.prt_command.specs.Reading.{words}
use Rattle.prt_analyses.specs.Claims.Reading.{claim_from, claim_of}
use Rattle.prt_analyses.proofs.claims.reading.read_words.Given as goal

abbrev pub invariant-loop-word : goal.invariant-loop-word
invariant-loop-word l = (claim_from l.number l.draft l.outcomes.items (words l.rest) ≡ claim_of (words l.text)) × (l.number + length l.rest ≤ length l.text + 1)

abbrev pub decreases-loop-word : goal.decreases-loop-word
decreases-loop-word l = length l.rest
