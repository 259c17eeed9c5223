use Rattle.std.proofs.Common.{sym, ◌∙◌}
use Rattle.prt_command.specs.Reading.{meaning_of, words}
use Rattle.std.proofs.lemmas.Result.{IfOk-weaker}
use Rattle.prt_command.proofs.Entries.{items_of_plain, items_of_word}
use Rattle.prt_command.proofs.reader.read_item.Goals as goal

pub returns-in-Some-clause-items : goal.returns-in-Some-clause-items
returns-in-Some-clause-items c =
    let line = (meaning_of c.args.verb).line in
    let begun = items_of_word line c.args.items.now c.args.word.now (words c.args.rest.now) c.in-Some.item (sym c.in-Some.ensures) in
    IfOk-weaker c.read_word_item.result _ _ (λ after h. begun ∙ h line) c.read_word_item.ensures.items

pub returns-in-Some-plain_slot-clause-items : goal.returns-in-Some-plain_slot-clause-items
returns-in-Some-plain_slot-clause-items c =
    let line = (meaning_of c.args.verb).line in
    let plain = items_of_plain line c.args.items.now c.args.word.now (words c.args.rest.now) c.in-Some-plain_slot.slot (sym c.in-None.ensures) (sym c.in-Some-plain_slot.ensures) in
    IfOk-weaker c.read_plain.result _ _ (λ after h. plain ∙ h line) c.read_plain.ensures.items
