use Rattle.std.proofs.Common.{◌≡◌, length}
use Rattle.prt_service.specs.Service.{AreAnswered}
use Rattle.prt_service.proofs.submitted.Submitted.answer.Given as goal

-- what is left to be answered ends the receipt's list
abbrev pub invariant-loop-one : goal.invariant-loop-one
invariant-loop-one g l = (l.later ≡ length l.one-iterator.rest.items) × AreAnswered g.J.ServiceBrand.book g.J.ServiceBrand.base l.one-iterator.rest.items l.became
