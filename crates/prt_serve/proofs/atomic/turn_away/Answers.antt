use Rattle.std.proofs.Common.{ap}
use Rattle.prt_service.specs.Look.{Look}
use Rattle.prt_serve.proofs.atomic.turn_away.Goals as goal

pub returns-clause-unmade : goal.returns-clause-unmade
returns-clause-unmade g c = record { same = ap (λ (l : Look). l.known) c.rest.ensures; read = c.drain.ensures; told = c.refuse-end.ensures }
