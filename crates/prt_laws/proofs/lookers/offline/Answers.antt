use Rattle.std.proofs.Common.{refl}
use Rattle.prt_laws.proofs.Looking.{offlined}
use Rattle.prt_laws.proofs.lookers.offline.Goals as goal

pub returns : goal.returns
returns c = offlined c.args.registry.now c.offline.new.self c.args.place.now c.offline.new.place c.requires c.args.place.now.announced refl c.offline.ensures.place c.offline.ensures.registry
