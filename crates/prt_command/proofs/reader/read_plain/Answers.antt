use Rattle.std.proofs.Common.{sym, ◌∙◌}
use Rattle.std.proofs.lemmas.Result.{IfOk-weaker}
use Rattle.prt_command.proofs.Entries.{items_after_to}
use Rattle.prt_command.proofs.reader.read_plain.Goals as goal

pub returns-then-is-clause-items : goal.returns-then-is-clause-items
returns-then-is-clause-items c =
    let to = sym c.is.ensures ∙ c.if-is.true in
    let new = sym c.has.ensures ∙ c.in_ok-word.ensures.new in
    IfOk-weaker c.read_qualified.result _ _ (λ after h line. items_after_to line c.args.slot c.args.items.now c.args.word.now _ _ _ to new c.in_ok-word.ensures.words ∙ h line) c.read_qualified.ensures.items
