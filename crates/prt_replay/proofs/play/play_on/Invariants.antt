use Rattle.std.proofs.Common.{◌≡◌, ◌++◌, drop}
use Rattle.prt_replay.specs.Machine.{machine_outcomes}
use Rattle.prt_replay.proofs.play.play_on.Given as goal

abbrev pub invariant-loop-event : goal.invariant-loop-event
invariant-loop-event l = l.trace ++ machine_outcomes l.machine (drop l.event-index l.events) ≡ machine_outcomes l.initial.machine l.events
