use Rattle.std.proofs.Common.{refl}
use Rattle.std.specs.Fmt.{digits}
use Rattle.prt_command.specs.Lines.{lines_of}
use Rattle.prt_replies.specs.Reply.{replies_text}
use Rattle.prt_session.specs.Session.{line_turn, session, session_lines, stops_after}
use Rattle.prt_session.proofs.scripts.scripts.Goals as goal

pub returns-clause-blank_lines : goal.returns-clause-blank_lines
unfolding session session_lines lines_of line_turn stops_after replies_text digits
returns-clause-blank_lines c = refl

pub returns-clause-dash_is_standard_input : goal.returns-clause-dash_is_standard_input
unfolding session session_lines lines_of line_turn stops_after replies_text digits
returns-clause-dash_is_standard_input c = refl

pub returns-clause-delete_lowest_metric : goal.returns-clause-delete_lowest_metric
unfolding session session_lines lines_of line_turn stops_after replies_text digits
returns-clause-delete_lowest_metric c = refl

pub returns-clause-delete_metric_zero : goal.returns-clause-delete_metric_zero
unfolding session session_lines lines_of line_turn stops_after replies_text digits
returns-clause-delete_metric_zero c = refl

pub returns-clause-failure_kinds : goal.returns-clause-failure_kinds
unfolding session session_lines lines_of line_turn stops_after replies_text digits
returns-clause-failure_kinds c = refl

pub returns-clause-first_run : goal.returns-clause-first_run
unfolding session session_lines lines_of line_turn stops_after replies_text digits
returns-clause-first_run c = refl

pub returns-clause-flush_routes : goal.returns-clause-flush_routes
unfolding session session_lines lines_of line_turn stops_after replies_text digits
returns-clause-flush_routes c = refl

pub returns-clause-force : goal.returns-clause-force
unfolding session session_lines lines_of line_turn stops_after replies_text digits
returns-clause-force c = refl

pub returns-clause-full_route_text : goal.returns-clause-full_route_text
unfolding session session_lines lines_of line_turn stops_after replies_text digits
returns-clause-full_route_text c = refl

pub returns-clause-longest_prefix : goal.returns-clause-longest_prefix
unfolding session session_lines lines_of line_turn stops_after replies_text digits
returns-clause-longest_prefix c = refl

pub returns-clause-lowest_metric : goal.returns-clause-lowest_metric
unfolding session session_lines lines_of line_turn stops_after replies_text digits
returns-clause-lowest_metric c = refl

pub returns-clause-no_route : goal.returns-clause-no_route
unfolding session session_lines lines_of line_turn stops_after replies_text digits
returns-clause-no_route c = refl

pub returns-clause-not_fwmark : goal.returns-clause-not_fwmark
unfolding session session_lines lines_of line_turn stops_after replies_text digits
returns-clause-not_fwmark c = refl

pub returns-clause-object_alone : goal.returns-clause-object_alone
unfolding session session_lines lines_of line_turn stops_after replies_text digits
returns-clause-object_alone c = refl

pub returns-clause-opening_rules : goal.returns-clause-opening_rules
unfolding session session_lines lines_of line_turn stops_after replies_text digits
returns-clause-opening_rules c = refl

pub returns-clause-ranges : goal.returns-clause-ranges
unfolding session session_lines lines_of line_turn stops_after replies_text digits
returns-clause-ranges c = refl

pub returns-clause-refused_lines : goal.returns-clause-refused_lines
unfolding session session_lines lines_of line_turn stops_after replies_text digits
returns-clause-refused_lines c = refl

pub returns-clause-replace_and_change : goal.returns-clause-replace_and_change
unfolding session session_lines lines_of line_turn stops_after replies_text digits
returns-clause-replace_and_change c = refl

pub returns-clause-rule_delete : goal.returns-clause-rule_delete
unfolding session session_lines lines_of line_turn stops_after replies_text digits
returns-clause-rule_delete c = refl

pub returns-clause-rule_flush : goal.returns-clause-rule_flush
unfolding session session_lines lines_of line_turn stops_after replies_text digits
returns-clause-rule_flush c = refl

pub returns-clause-rule_selectors : goal.returns-clause-rule_selectors
unfolding session session_lines lines_of line_turn stops_after replies_text digits
returns-clause-rule_selectors c = refl

pub returns-clause-spellings : goal.returns-clause-spellings
unfolding session session_lines lines_of line_turn stops_after replies_text digits
returns-clause-spellings c = refl

pub returns-clause-suppress_prefixlength : goal.returns-clause-suppress_prefixlength
unfolding session session_lines lines_of line_turn stops_after replies_text digits
returns-clause-suppress_prefixlength c = refl

pub returns-clause-throw_falls_through : goal.returns-clause-throw_falls_through
unfolding session session_lines lines_of line_turn stops_after replies_text digits
returns-clause-throw_falls_through c = refl

pub returns-clause-two_uplinks : goal.returns-clause-two_uplinks
unfolding session session_lines lines_of line_turn stops_after replies_text digits
returns-clause-two_uplinks c = refl

pub returns-clause-unended_line : goal.returns-clause-unended_line
unfolding session session_lines lines_of line_turn stops_after replies_text digits
returns-clause-unended_line c = refl

pub returns-clause-wg_quick : goal.returns-clause-wg_quick
unfolding session session_lines lines_of line_turn stops_after replies_text digits
returns-clause-wg_quick c = refl

pub returns-clause-without_force : goal.returns-clause-without_force
unfolding session session_lines lines_of line_turn stops_after replies_text digits
returns-clause-without_force c = refl
