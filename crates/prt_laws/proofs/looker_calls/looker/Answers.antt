use Rattle.prt_laws.proofs.Refreshing.{made}
use Rattle.prt_laws.proofs.looker_calls.looker.Goals as goal

pub returns-in-Ok : goal.returns-in-Ok
returns-in-Ok g c = made c.in-Ok.looker c.in-Ok.ensures.offline.0 c.in-Ok.ensures.offline.1
