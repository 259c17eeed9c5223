use Rattle.std.proofs.Common.{[]}
use Rattle.prt_listing.proofs.ListingLines.{listed_more}
use Rattle.prt_replay.specs.TraceText.{outcome_text}
use Rattle.prt_replay.proofs.text.trace_text.Goals as goal

pub loop-outcome-preserved : goal.loop-outcome-preserved
loop-outcome-preserved c = listed_more outcome_text _ c.loop-outcome.outcome-index c.outcome-item.result [] _ _ c.loop-outcome-test.true c.outcome-item.is c.loop-outcome.invariant c.in_ok-push_line.ensures
