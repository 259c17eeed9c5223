use Rattle.std.proofs.Common.{refl}
use Rattle.prt_laws.proofs.Looking.{announces}
use Rattle.prt_laws.proofs.lookers.announce.Goals as goal

pub returns : goal.returns
returns c = announces c.args.registry.now c.announce.new.self c.args.place.now c.announce.new.place c.requires.known c.args.number c.args.place.now.announced refl c.requires.online c.announce.ensures.place c.announce.ensures.registry
