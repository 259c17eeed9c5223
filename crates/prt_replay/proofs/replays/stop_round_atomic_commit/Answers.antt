use Rattle.std.proofs.Common.{refl}
use Rattle.std.specs.Fmt.{digits}
use Rattle.prt_command.specs.Lines.{lines_of}
use Rattle.prt_replay.specs.ReadEvents.{events_of, events_of_lines, line_event}
use Rattle.prt_replay.proofs.replays.stop_round_atomic_commit.Goals as goal

pub returns : goal.returns
unfolding events_of events_of_lines line_event lines_of digits
returns c = record { after = refl; kept = refl; lost = refl; before = refl }
