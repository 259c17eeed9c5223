use Rattle.std.proofs.Common.{◌≡◌, map, take}
use Rattle.prt_listing.specs.QueryText.{lines_text}
use Rattle.prt_replay.specs.TraceText.{outcome_text}
use Rattle.prt_replay.proofs.text.trace_text.Given as goal

abbrev pub invariant-loop-outcome : goal.invariant-loop-outcome
invariant-loop-outcome l = l.out.items ≡ lines_text (map outcome_text (take l.outcome-index l.outcome-items))
