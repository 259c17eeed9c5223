use Rattle.std.proofs.Common.{◌≡◌, ℕ, subst, arith}
use Rattle.std.specs.Arc.{arc_value}
use Rattle.prt_fib.specs.Following.{AreRenumbered}
use Rattle.prt_fib.specs.Numbers.{IsNumber}
use Rattle.prt_fib.proofs.Followed.{renumbered_more}
use Rattle.prt_fib.proofs.following.renumber.Goals as goal

pub loop-place-preserved : goal.loop-place-preserved
loop-place-preserved c =
    let place : ℕ = c.loop-place.place in
    let now = c.loop-place.invariant in
    let size = now.size in
    let inside = c.loop-place-test.true in
    let last = c.requires.last in
    let same = c.requires.same in
    let between = arc_value c.loop-place.outcomes in
    let new = arc_value c.number_among.new.outcomes in
    renumbered_more c.args.version.now c.args.packet.now c.args.starts.now c.args.first place c.args.numbers.now.items c.loop-place.numbers.items (arc_value c.args.outcomes.now) between new c.in_ok-numbers.field-0
    now c.loop-place.auto.place (omega arith) (subst (λ o. IsNumber between o c.in_ok-numbers.field-0 new) c.outcome_to-outcome.ensures c.in_ok-numbers.ensures.value)

pub returns-clause-value : goal.returns-clause-value
returns-clause-value c =
    let to = c.loop-place.auto.place-end c.requires.order in
    let from = c.loop-place-test.false in
    let e : c.loop-place.place ≡ c.args.last = omega arith in
    subst (λ n. AreRenumbered c.args.version.now c.args.packet.now c.args.starts.now c.args.first n c.args.numbers.now.items c.loop-place.numbers.items (arc_value c.args.outcomes.now) (arc_value c.loop-place.outcomes)) e c.loop-place.invariant
