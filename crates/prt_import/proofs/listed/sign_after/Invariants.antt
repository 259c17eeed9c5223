use Rattle.std.proofs.Common.{◌≡◌, length}
use Rattle.prt_command.specs.Reading.{words}
use Rattle.prt_import.specs.Listed.{sign_after}
use Rattle.prt_import.proofs.listed.sign_after.Given as goal

abbrev pub invariant-loop-word : goal.invariant-loop-word
invariant-loop-word l = sign_after l.object l.fn.before (words l.fn.text) ≡ sign_after l.object l.before (words l.rest)

abbrev pub decreases-loop-word : goal.decreases-loop-word
decreases-loop-word l = length l.rest
