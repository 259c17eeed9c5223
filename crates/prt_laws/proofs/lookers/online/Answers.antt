use Rattle.std.proofs.Common.{refl}
use Rattle.prt_laws.proofs.Looking.{online_shows, onlined}
use Rattle.prt_laws.proofs.lookers.online.Goals as goal

pub returns : goal.returns
returns c = record {
  moved = onlined c.args.registry.now c.online.new.self c.args.place.now c.online.new.place c.requires c.args.place.now.announced c.online.result refl c.online.ensures.number c.online.ensures.place c.online.ensures.registry;
  number = online_shows c.args.registry.now c.online.new.self c.args.place.now c.online.new.place c.requires c.online.result c.online.ensures.number;
}
