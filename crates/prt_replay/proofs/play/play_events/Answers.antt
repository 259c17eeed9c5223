use Rattle.std.proofs.Common.{◌≡◌, IfOk, ap, subst, ◌∙◌}
use Rattle.prt_replay.specs.Machine.{machine_outcomes}
use Rattle.prt_replay.proofs.WholeReplays.{same_outcomes}
use Rattle.prt_replay.proofs.play.play_events.Goals as goal

pub returns-clause-value : goal.returns-clause-value
returns-clause-value c =
    subst (λ outcomes. IfOk c.play_on.result (λ trace. trace ≡ outcomes))
    (ap (λ machine. machine_outcomes machine c.args.events.now) c.in_ok-machine.ensures ∙ same_outcomes c.args.events.now)
    c.play_on.ensures.value
