use Rattle.std.proofs.Common.{◌≡◌, arith}
use Rattle.prt_grace.specs.declared.limits.TheConstants.{PLACES}
use Rattle.prt_replay.specs.Machine.{seats_below}
use Rattle.prt_replay.proofs.Joins.{all_seated, all_sit, has_place, joins, sits_down}
use Rattle.prt_replay.proofs.lookers.Lookers.new.Goals as goal

pub loop-index-init : goal.loop-index-init
unfolding seats_below
loop-index-init c = (c.new-registry.ensures, c.new-seats.ensures.items)

pub unreachable-requires : goal.unreachable-requires
unreachable-requires c = has_place _ _ _ c.loop-index-test.true c.loop-index.invariant.0 c.in_default.ensures.taken.0

pub loop-index-preserved : goal.loop-index-preserved
loop-index-preserved c = (
  joins _ _ _ _ c.in-Some.place c.loop-index-test.true c.loop-index.invariant.0 c.in-Some.ensures.place.0 c.in-Some.ensures.registry,
  sits_down _ _ _ _ _ c.in-Some.place c.loop-index-test.true c.loop-index.invariant.0 c.in-Some.ensures.place.0 c.in-Some.ensures.place.1 c.loop-index.invariant.1 c.in_ok-push.ensures,
)

pub invariant_of-result : goal.invariant_of-result
invariant_of-result c =
    let all : c.loop-index._index ≡ PLACES = omega (arith, c.loop-index.auto, c.loop-index-test.false) in
    all_seated _ _ _ _ all c.loop-index.invariant.0 c.loop-index.invariant.1

pub returns : goal.returns
returns c =
    let all : c.loop-index._index ≡ PLACES = omega (arith, c.loop-index.auto, c.loop-index-test.false) in
    all_sit _ _ _ _ all c.loop-index.invariant.0 c.loop-index.invariant.1
