use Rattle.std.proofs.Common.{◌≡◌}
use Rattle.prt_replay.specs.ReadEvents.{contents, refused_from}
use Rattle.prt_replay.proofs.replay_file.first_refused.Given as goal

abbrev pub invariant-loop-number : goal.invariant-loop-number
invariant-loop-number l = refused_from l.number (contents l.rest) ≡ refused_from 1 (contents l.fn.bytes)
