use Rattle.std.proofs.Common.{refl}
use Rattle.prt_laws.proofs.Looking.{parted}
use Rattle.prt_laws.proofs.lookers.part.Goals as goal

pub returns : goal.returns
returns c = parted c.args.registry.now c.part.new.self c.args.place c.requires c.args.place.announced refl c.part.ensures
