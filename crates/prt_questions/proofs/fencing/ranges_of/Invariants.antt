use Rattle.std.proofs.Common.{◌≡◌, map, take}
use Rattle.prt_questions.specs.Fencing.{range_of}
use Rattle.prt_questions.proofs.fencing.ranges_of.Given as goal

abbrev pub invariant-loop-span : goal.invariant-loop-span
invariant-loop-span l = l.ranges.items ≡ map range_of (take l.span-index l.spans)
