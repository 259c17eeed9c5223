use Rattle.prt_laws.proofs.Looking.{reclaim_shows}
use Rattle.prt_laws.proofs.lookers.reclaim.Goals as goal

pub returns : goal.returns
returns c = record { registry = λ w. c.reclaim.ensures.registry; number = reclaim_shows c.args.registry.now c.reclaim.new.self c.reclaim.result c.reclaim.ensures.registry c.reclaim.ensures.number }
