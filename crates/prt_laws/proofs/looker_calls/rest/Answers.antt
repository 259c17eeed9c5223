use Rattle.std.proofs.Common.{ap}
use Rattle.prt_service.specs.Look.{Look}
use Rattle.prt_laws.proofs.Refreshing.{rests}
use Rattle.prt_laws.proofs.looker_calls.rest.Goals as goal

pub returns : goal.returns
returns g c = rests c.args.looker.now c.rest.new.self (ap (λ (l : Look). l.held) c.rest.ensures) (ap (λ (l : Look). l.announced) c.rest.ensures)
