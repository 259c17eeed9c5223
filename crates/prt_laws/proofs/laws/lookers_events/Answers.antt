use Rattle.prt_laws.proofs.Looking.{lookers_event}
use Rattle.prt_laws.proofs.laws.lookers_events.Goals as goal

pub returns : goal.returns
returns g c = lookers_event g.S.Store
