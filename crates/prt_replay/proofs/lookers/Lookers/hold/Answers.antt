use Rattle.std.specs.Arc.{arc_value}
use Rattle.std.proofs.Common.{Some, ap, ◌∙◌}
use Rattle.prt_replay.specs.Machine.{hold}
use Rattle.prt_replay.proofs.Seats.{held_after, holds, read}
use Rattle.prt_replay.proofs.lookers.Lookers.hold.Goals as goal

pub invariant_of-self : goal.invariant_of-self
invariant_of-self c = held_after _ _ _ _ _ _ (read _ _ _ _ _ _ c.self.invariant c.seat_index.ensures.value c.seat_index.ensures.low c.seat.view_is c.index_mut-seat.ensures.value)

pub returns : goal.returns
returns c = holds _ _ _ _ _ _ (read _ _ _ _ _ _ c.self.invariant c.seat_index.ensures.value c.seat_index.ensures.low c.seat.view_is c.index_mut-seat.ensures.value) ∙ ap (λ lookers. hold lookers c.args.looker (Some (arc_value c.args.version))) c.self.view_is
