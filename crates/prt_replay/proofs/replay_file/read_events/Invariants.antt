use Rattle.std.proofs.Common.{length}
use Rattle.prt_replay.proofs.EventSteps.{HasRead}
use Rattle.prt_replay.proofs.replay_file.read_events.Given as goal

abbrev pub invariant-lines : goal.invariant-lines
invariant-lines l = HasRead l.fn.bytes l.events.items l.left l.rest

abbrev pub decreases-lines : goal.decreases-lines
decreases-lines l = length l.rest
