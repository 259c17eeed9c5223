use Rattle.std.proofs.Common.{sym, ◌∙◌}
use Rattle.prt_replay.proofs.CommandWords.{command_read, none_read, word_read}
use Rattle.prt_replay.proofs.read.read_commands.Goals as goal

pub words-init : goal.words-init
words-init c = none_read c.args.text.now _ _ c.new-them.ensures.items c.new-line.ensures.items

pub words-preserved-in_default-add_command : goal.words-preserved-in_default-add_command
words-preserved-in_default-add_command c = command_read c.args.text.now c.words.them.items c.add_command.new.them.items c.words.line.items c.clear.new.self.items c.words.rest.now c.in-Some.after.now c.in-Some.word.now c.words.invariant c.in-Some.ensures.0 (sym c.is.ensures ∙ c.if-is.true) (rw c.as_slice.ensures.value at c.in_default-add_command.ensures) c.clear.ensures.items

pub words-preserved : goal.words-preserved
words-preserved c = word_read c.args.text.now c.words.them.items c.words.line.items c.add_word.new.line.items c.words.rest.now c.in-Some.after.now c.in-Some.word.now c.words.invariant c.in-Some.ensures.0 (sym c.is.ensures ∙ c.if-is.false) c.in_ok-add_word.ensures.line
