use Rattle.prt_service.proofs.Groups.{SoFar}
use Rattle.prt_service.proofs.group.Group.add_accepted.Given as goal

abbrev pub invariant-loop-one : goal.invariant-loop-one
invariant-loop-one g l = SoFar l.fn.self.base l.self l.one-iterator.rest.items l.fn.waiting.items
