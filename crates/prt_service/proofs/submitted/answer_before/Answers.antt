use Rattle.std.proofs.Common.{Ok, Result, sym, ◌∙◌, ap}
use Rattle.prt_published.specs.Line.{Line}
use Rattle.prt_refusals.specs.declared.refusal.Refusal.{Refusal}
use Rattle.prt_service.specs.Group.{answer_before}
use Rattle.prt_service.proofs.Receipts.{own_answer}
use Rattle.prt_service.proofs.submitted.answer_before.Goals as goal

pub returns-in-Ok-clause-own : goal.returns-in-Ok-clause-own
returns-in-Ok-clause-own c = λ before commands index counted is.
    let own = own_answer before commands index c.args.later c.args.became.now counted is in
    ap (λ (line : Line). (let r : Result Line Refusal = Ok line in r)) c.of_earlier.ensures
    ∙ ap (λ (r : Result Line Refusal). answer_before r c.args.later) (sym c.in-Ok.is)
    ∙ own
