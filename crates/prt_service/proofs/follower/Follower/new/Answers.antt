use Rattle.prt_service.proofs.Following.{begins_numbered}
use Rattle.prt_service.proofs.follower.Follower.new.Goals as goal

pub invariant_of-result : goal.invariant_of-result
invariant_of-result g c = begins_numbered g.J.ServiceBrand.book g.J.ServiceBrand.base c.args.number c.whole.result c.args.known.now c.whole.ensures c.requires.of c.requires.accepted c.requires.number
