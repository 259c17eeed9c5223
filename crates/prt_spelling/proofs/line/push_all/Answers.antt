use Rattle.prt_listing.specs.Steps.{part_of}
use Rattle.prt_spelling.proofs.Spaces.{pushed_more}
use Rattle.prt_spelling.proofs.line.push_all.Goals as goal

pub loop-part-preserved : goal.loop-part-preserved
loop-part-preserved c = pushed_more part_of c.args.parts.now c.loop-part.part-index c.part-item.result _ _ _ c.loop-part-test.true c.part-item.is c.loop-part.invariant c.in_ok-push_if_there.ensures
