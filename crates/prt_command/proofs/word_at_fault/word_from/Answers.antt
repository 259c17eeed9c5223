use Rattle.std.proofs.Common.{◌+◌, ◌∙◌, ap, sym}
use Rattle.prt_command.proofs.Splitting.{some_of, zero_of}
use Rattle.prt_command.proofs.WordPlaces.{none_from, word_from}
use Rattle.prt_command.proofs.word_at_fault.word_from.Goals as goal

pub returns-then-is_empty-clause-words : goal.returns-then-is_empty-clause-words
returns-then-is_empty-clause-words c = none_from c.args.text.now c.args.from (c.args.from + c.white_len.result) c.requires (ap (λ n. c.args.from + n) c.white_len.ensures) (zero_of _ (sym c.is_empty.ensures ∙ c.if-is_empty.true))

pub returns-clause-words : goal.returns-clause-words
returns-clause-words c = word_from c.args.text.now c.args.from (c.args.from + c.white_len.result) c.requires (ap (λ n. c.args.from + n) c.white_len.ensures) c.word_len.result (some_of _ (sym c.is_empty.ensures ∙ c.if-is_empty.false)) c.word_len.ensures
