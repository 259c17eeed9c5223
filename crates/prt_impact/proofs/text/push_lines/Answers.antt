use Rattle.prt_listing.proofs.ListingLines.{listed_more}
use Rattle.prt_impact.specs.Text.{group_text}
use Rattle.prt_impact.proofs.text.push_lines.Goals as goal

pub loop-group-preserved : goal.loop-group-preserved
loop-group-preserved c = listed_more group_text c.args.groups.now c.loop-group.group-index c.group-item.result _ _ _ c.loop-group-test.true c.group-item.is c.loop-group.invariant c.in_ok-push_group_line.ensures
