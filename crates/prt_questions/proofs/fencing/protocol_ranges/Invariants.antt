use Rattle.std.proofs.Common.{◌≡◌, map, take}
use Rattle.prt_questions.specs.Fencing.{range_at}
use Rattle.prt_questions.proofs.fencing.protocol_ranges.Given as goal

abbrev pub invariant-loop-protocol : goal.invariant-loop-protocol
invariant-loop-protocol l = l.ranges.items ≡ map range_at (take l.protocol-index l.protocols)
