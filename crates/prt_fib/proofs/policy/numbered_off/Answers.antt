use Rattle.std.proofs.Common.{ℕ, take, length-take-le, refl, sym, subst, arith}
use Rattle.prt_fib.specs.Policy.{AreNumberedOff}
use Rattle.prt_fib.proofs.Classified.{numbered_off_more, taken_more}
use Rattle.prt_fib.proofs.policy.numbered_off.Goals as goal

pub loop-number-preserved : goal.loop-number-preserved
loop-number-preserved c =
    let packets = c.args.packets.now in
    let n : ℕ = c.loop-number.number in
    let packet = c.index-packets-number.result in
    let inside = c.loop-number-test.true in
    subst (λ ps. AreNumberedOff ps c.push.new.self.items) (sym (taken_more packets n packet inside c.index-packets-number.is))
    (subst (AreNumberedOff _) (sym c.in_ok-push.ensures.items)
    (numbered_off_more (take n packets) c.loop-number.classes.items packet _ c.loop-number.invariant (sym (length-take-le n packets (omega arith))) refl))
