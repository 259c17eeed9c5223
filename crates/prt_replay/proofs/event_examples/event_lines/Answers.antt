use Rattle.std.proofs.Common.{refl}
use Rattle.prt_command.specs.Lines.{lines_of}
use Rattle.prt_replay.specs.ReadEvents.{events_of, events_of_lines, line_event}
use Rattle.prt_replay.proofs.event_examples.event_lines.Goals as goal

pub returns : goal.returns
unfolding events_of events_of_lines line_event lines_of
returns c = record {
  submit = refl;
  submit_after_ip = refl;
  submit_all = refl;
  submit_all_of_one = refl;
  call = refl;
  fail_kept = refl;
  fail_lost = refl;
  publish = refl;
  publishfail = refl;
  note = refl;
  ack = refl;
  online = refl;
  last_looker = refl;
  hexadecimal_looker = refl;
  announce = refl;
  offline = refl;
  look = refl;
  reclaim = refl;
  stop_kept = refl;
  stop_lost = refl;
  reopen = refl;
  blank = refl;
  comment = refl;
}
