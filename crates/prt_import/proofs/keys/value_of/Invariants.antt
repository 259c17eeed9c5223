use Rattle.std.proofs.Common.{◌≡◌, length}
use Rattle.prt_command.specs.Reading.{words}
use Rattle.prt_import.specs.Keys.{value_after, value_of}
use Rattle.prt_import.proofs.keys.value_of.Given as goal

abbrev pub invariant-loop-word : goal.invariant-loop-word
invariant-loop-word l = value_of l.name (words l.fn.line) ≡ value_after l.name l.before (words l.rest)

abbrev pub decreases-loop-word : goal.decreases-loop-word
decreases-loop-word l = length l.rest
