use Rattle.std.proofs.Common.{◌≤◌, Some, IsSome, IfSome, subst, sym}
use Rattle.prt_replay.proofs.Seats.{read, seated_after}
use Rattle.prt_replay.proofs.lookers.Lookers.announce.Goals as goal

pub invariant_of-self-2 : goal.invariant_of-self-2
invariant_of-self-2 c = seated_after _ _ _ _ _ _ _ (Some c.in_ok-number.number) _ (read _ _ _ _ _ _ c.self.invariant c.seat_index.ensures.value c.seat_index.ensures.low c.seat.view_is c.index_mut-seat.ensures.value) c.announce.ensures.place c.announce.ensures.registry

pub announce-requires-clause-online : goal.announce-requires-clause-online
announce-requires-clause-online c = subst (λ seat. IsSome seat.place.announced) (sym c.seat.view_is) c.in_ok-number.ensures.online

pub announce-requires-clause-later : goal.announce-requires-clause-later
announce-requires-clause-later c = subst (λ seat. IfSome seat.place.announced (λ before. before ≤ c.in_ok-number.number)) (sym c.seat.view_is) c.in_ok-number.ensures.later
