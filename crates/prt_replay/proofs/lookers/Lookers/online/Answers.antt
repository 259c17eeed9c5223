use Rattle.std.proofs.Common.{Some, None, ap, ◌∙◌}
use Rattle.prt_replay.specs.Machine.{sit}
use Rattle.prt_replay.proofs.Seats.{read, seated_after, sits}
use Rattle.prt_replay.proofs.lookers.Lookers.online.Goals as goal

pub invariant_of-self-2 : goal.invariant_of-self-2
invariant_of-self-2 c = seated_after _ _ _ _ _ _ _ (Some c.online.result) None (read _ _ _ _ _ _ c.self.invariant c.seat_index.ensures.value c.seat_index.ensures.low c.seat.view_is c.index_mut-seat.ensures.value) c.online.ensures.place c.online.ensures.registry

pub returns-clause-after : goal.returns-clause-after
returns-clause-after c = sits _ _ _ _ _ _ _ (Some c.online.result) None (read _ _ _ _ _ _ c.self.invariant c.seat_index.ensures.value c.seat_index.ensures.low c.seat.view_is c.index_mut-seat.ensures.value) c.online.ensures.place c.online.ensures.registry ∙ ap (λ lookers. sit lookers c.args.looker (Some c.online.result) None) c.self.view_is
