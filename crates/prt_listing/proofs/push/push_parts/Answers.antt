use Rattle.prt_listing.specs.Steps.{part_of}
use Rattle.prt_listing.proofs.Spaced.{left_out, parts-more, pushed_one}
use Rattle.prt_listing.proofs.push.push_parts.Goals as goal
use Rattle.prt_listing.proofs.push.push_parts.Goals.{in-Some+in_ok-extend_from_slice+in_ok-push_part, in_default}

pub loop-part-preserved : goal.loop-part-preserved
loop-part-preserved c =
    let more = parts-more part_of c.args.parts.now c.loop-part.part-index c.part-item.result c.loop-part-test.true c.part-item.is in
    elim c.match-part.branch [
      | in-Some+in_ok-extend_from_slice+in_ok-push_part w ↦ rw (w.out-is, w.gap-is, more, w.in-Some.is) (pushed_one _ _ _ _ _ _ _ c.loop-part.invariant w.in_ok-extend_from_slice.ensures.items w.in_ok-push_part.ensures.ok)
      | in_default w ↦ rw (w.out-is, w.gap-is, more, w.in_default.is) (left_out _ _ _ _ c.loop-part.invariant)
    ]
