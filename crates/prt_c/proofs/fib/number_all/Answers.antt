use Rattle.std.proofs.Common.{arith}
use Rattle.prt_c.proofs.FibNumbers.{one_number}
use Rattle.prt_c.proofs.fib.number_all.Goals as goal

pub loop-place-preserved : goal.loop-place-preserved
loop-place-preserved c =
    let within = c.loop-place-test.true in
    let room = c.smaller-room.ensures in
    one_number c.args.fib.now c.args.destinations.now c.args.numbers.now c.loop-place.numbers c.loop-place.place c.number.result (omega (arith, within, room.first)) (omega (arith, within, room.second)) c.loop-place.invariant c.number.ensures.value
