use Rattle.std.proofs.Common.{◌≡◌, ◌-◌, ◌∷◌, List, Result, ap, arith, length, subst, sym}
use Rattle.prt_command.specs.declared.request.Command.{Command}
use Rattle.prt_service.proofs.Receipts.{first_answered, later_answered, some_later}
use Rattle.prt_service.specs.Service.{AreAnswered, IsAnswer}
use Rattle.prt_published.specs.Line.{Line}
use Rattle.prt_refusals.specs.declared.refusal.Refusal.{Refusal}
use Rattle.prt_service.proofs.submitted.Submitted.answer.Goals as goal

pub overflow_sub-later : goal.overflow_sub-later
overflow_sub-later g c = omega (arith, c.loop-one.invariant.0, ap length c.in-Some.ensures.steps.0)

pub answer_before-own-requires : goal.answer_before-own-requires
answer_before-own-requires g c =
    let rest : List Command = c.next.new.self.rest.items in
    let steps = c.in-Some.ensures.steps.0 in
    let answered : AreAnswered g.J.ServiceBrand.book g.J.ServiceBrand.base (c.in-Some.one ∷ rest) c.args.self.became = subst (λ (list : List Command). AreAnswered g.J.ServiceBrand.book g.J.ServiceBrand.base list c.args.self.became) steps c.loop-one.invariant.1 in
    let count : c.loop-one.later - 1 ≡ length rest = omega (arith, c.loop-one.invariant.0, ap length steps) in
    some_later g.J.ServiceBrand.book g.J.ServiceBrand.base c.in-Some.one rest (c.loop-one.later - 1) c.args.self.became count answered

pub answer-requires : goal.answer-requires
answer-requires g c =
    let rest : List Command = c.next.new.self.rest.items in
    let steps = c.in-Some.ensures.steps.0 in
    let answered : AreAnswered g.J.ServiceBrand.book g.J.ServiceBrand.base (c.in-Some.one ∷ rest) c.args.self.became = subst (λ (list : List Command). AreAnswered g.J.ServiceBrand.book g.J.ServiceBrand.base list c.args.self.became) steps c.loop-one.invariant.1 in
    let count : c.loop-one.later - 1 ≡ length rest = omega (arith, c.loop-one.invariant.0, ap length steps) in
    subst (λ (r : Result Line Refusal). IsAnswer g.J.ServiceBrand.book g.J.ServiceBrand.base c.in-Some.one r) (sym c.answer_before-own.ensures.value)
    (first_answered g.J.ServiceBrand.book g.J.ServiceBrand.base c.in-Some.one rest (c.loop-one.later - 1) c.args.self.became count answered)

pub loop-one-preserved : goal.loop-one-preserved
loop-one-preserved g c =
    let rest : List Command = c.next.new.self.rest.items in
    let steps = c.in-Some.ensures.steps.0 in
    let answered : AreAnswered g.J.ServiceBrand.book g.J.ServiceBrand.base (c.in-Some.one ∷ rest) c.args.self.became = subst (λ (list : List Command). AreAnswered g.J.ServiceBrand.book g.J.ServiceBrand.base list c.args.self.became) steps c.loop-one.invariant.1 in
    (omega (arith, c.loop-one.invariant.0, ap length steps), later_answered g.J.ServiceBrand.book g.J.ServiceBrand.base c.in-Some.one rest c.args.self.became answered)
