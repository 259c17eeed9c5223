use Rattle.prt_laws.proofs.Refreshing.{learns}
use Rattle.prt_laws.proofs.looker_calls.learn.Goals as goal

pub returns : goal.returns
returns c = learns c.args.looker.now c.learn.new.self c.learn.ensures.held.0 c.learn.ensures.held.1
