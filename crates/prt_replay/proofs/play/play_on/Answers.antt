use Rattle.std.proofs.Common.{◌++◌, ◌+◌, ap, drop, ◌∙◌}
use Rattle.prt_replay.specs.Machine.{machine_outcomes}
use Rattle.prt_replay.proofs.WholeReplays.{outcomes_done, outcomes_more}
use Rattle.prt_replay.proofs.play.play_on.Goals as goal

pub loop-event-preserved : goal.loop-event-preserved
loop-event-preserved c =
    ap (λ trace. trace ++ machine_outcomes c.step.new.self (drop (c.loop-event.event-index + 1) c.args.events.now)) c.in_ok-push-in-Ok.ensures.ok
    ∙ outcomes_more _ _ c.in-Ok.outcome c.loop-event.trace c.args.events.now c.loop-event.event-index c.event-item.result c.loop-event-test.true c.event-item.is c.in-Ok.ensures
    ∙ c.loop-event.invariant

pub returns-clause-value : goal.returns-clause-value
returns-clause-value c = outcomes_done _ _ _ _ _ c.loop-event-test.false c.loop-event.invariant
