use Rattle.std.proofs.Common.{None, ap, ◌∙◌}
use Rattle.prt_replay.specs.Machine.{sit}
use Rattle.prt_replay.proofs.Seats.{read, seated_after, sits}
use Rattle.prt_replay.proofs.lookers.Lookers.offline.Goals as goal

pub invariant_of-self : goal.invariant_of-self
invariant_of-self c = seated_after _ _ _ _ _ _ _ None None (read _ _ _ _ _ _ c.self.invariant c.seat_index.ensures.value c.seat_index.ensures.low c.seat.view_is c.index_mut-seat.ensures.value) c.offline.ensures.place c.offline.ensures.registry

pub returns : goal.returns
returns c = sits _ _ _ _ _ _ _ None None (read _ _ _ _ _ _ c.self.invariant c.seat_index.ensures.value c.seat_index.ensures.low c.seat.view_is c.index_mut-seat.ensures.value) c.offline.ensures.place c.offline.ensures.registry ∙ ap (λ lookers. sit lookers c.args.looker None None) c.self.view_is
