use Rattle.std.proofs.Common.{◌≡◌}
use Rattle.std.specs.Arc.{arc_value}
use Rattle.prt_replay.specs.Machine.{seats_below}
use Rattle.prt_replay.proofs.Joins.{joined}
use Rattle.prt_replay.proofs.lookers.Lookers.new.Given as goal

abbrev pub invariant-loop-index : goal.invariant-loop-index
invariant-loop-index l = (l.registry ≡ joined (arc_value l.fn.version) l._index) × (l.seats.items ≡ seats_below l._index)
