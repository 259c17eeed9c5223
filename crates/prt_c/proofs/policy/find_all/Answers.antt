use Rattle.std.proofs.Common.{arith}
use Rattle.prt_c.proofs.Answered.{one_more}
use Rattle.prt_c.proofs.policy.find_all.Goals as goal

pub loop-place-preserved : goal.loop-place-preserved
loop-place-preserved c =
    let within = c.loop-place-test.true in
    let room = c.smaller-room.ensures in
    one_more _ _ _ _ _ _ _ (omega (arith, within, room.first)) (omega (arith, within, room.second)) c.loop-place.invariant c.in-Ok.ensures.found
