use Rattle.std.proofs.Common.{◌≡◌, take}
use Rattle.std.specs.Prelude.{filter_map}
use Rattle.prt_questions.specs.Fencing.{unread_priority}
use Rattle.prt_questions.proofs.fencing.unread_priorities.Given as goal

abbrev pub invariant-loop-line : goal.invariant-loop-line
invariant-loop-line l = l.ranges.items ≡ filter_map unread_priority (take l.line-index l.unread)
