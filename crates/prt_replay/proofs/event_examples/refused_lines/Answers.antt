use Rattle.std.proofs.Common.{refl}
use Rattle.prt_command.specs.Lines.{lines_of}
use Rattle.prt_replay.specs.ReadEvents.{events_of, events_of_lines, line_event}
use Rattle.prt_replay.proofs.event_examples.refused_lines.Goals as goal

pub returns : goal.returns
unfolding events_of events_of_lines line_event lines_of
returns c = record {
  unknown_looker = refl;
  no_fate = refl;
  word_after_the_last = refl;
  nothing_submitted = refl;
  looks_for_no_packet = refl;
  unknown_event = refl;
  case_matters = refl;
  ip_is_no_event = refl;
  misspelt_fate = refl;
  no_stop_fate = refl;
  word_after_fate = refl;
  no_looker = refl;
  no_number = refl;
  leading_zero = refl;
  bad_looker_before_more = refl;
  word_after_looker = refl;
  blank_look = refl;
  look_of_none = refl;
  look_of_bad_looker = refl;
  look_of_a_command = refl;
  look_of_bad_address = refl;
  query_submitted = refl;
  listing_submitted = refl;
  no_object_submitted = refl;
  bad_line_submitted = refl;
  no_next_hop_submitted = refl;
  none_of_all = refl;
  blank_before_the_first = refl;
  blank_between = refl;
  blank_after_the_last = refl;
  query_among_all = refl;
  first_fault_of_all = refl;
  semicolon_in_a_word = refl;
  two_to_submit = refl;
  not_ascii = refl;
  too_long = refl;
  first_of_two_lines = refl;
  a_line_too_many = refl;
  an_event_too_many = refl;
  own_refusal_of_one_too_many = refl;
}
