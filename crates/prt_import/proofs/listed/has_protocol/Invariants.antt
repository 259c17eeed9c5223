use Rattle.std.proofs.Common.{◌≡◌, length}
use Rattle.std.specs.List.{list_any}
use Rattle.prt_command.specs.Reading.{words}
use Rattle.prt_import.specs.Listed.{tells_protocol}
use Rattle.prt_import.proofs.listed.has_protocol.Given as goal

abbrev pub invariant-loop-word : goal.invariant-loop-word
invariant-loop-word l = list_any tells_protocol (words l.fn.line) ≡ list_any tells_protocol (words l.rest)

abbrev pub decreases-loop-word : goal.decreases-loop-word
decreases-loop-word l = length l.rest
