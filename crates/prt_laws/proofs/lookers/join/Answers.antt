use Rattle.prt_laws.proofs.Looking.{joined}
use Rattle.prt_laws.proofs.lookers.join.Goals as goal

pub returns-in-Some : goal.returns-in-Some
returns-in-Some c = joined c.args.registry.now c.join.new.self c.in-Some.place c.in-Some.ensures.place.0 c.in-Some.ensures.place.1 c.in-Some.ensures.registry
