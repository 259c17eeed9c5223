use Rattle.std.proofs.Common.{sym, ◌∙◌}
use Rattle.prt_command.specs.LineKinds.{outcome_words, selector_words}
use Rattle.prt_command.proofs.Entries.{in_first, in_second}
use Rattle.prt_command.proofs.verb.rule_edit_word.Goals as goal

pub returns-in-Some : goal.returns-in-Some
returns-in-Some c = sym (in_first selector_words outcome_words c.args.word.now c.in-Some.item (sym c.in-Some.ensures))

pub returns-in-None : goal.returns-in-None
returns-in-None c = c.outcome_word.ensures ∙ sym (in_second selector_words outcome_words c.args.word.now (sym c.in-None.ensures))
