use Rattle.prt_laws.proofs.Refreshing.{refreshes, refreshes_not}
use Rattle.prt_laws.proofs.looker_calls.refresh.Goals as goal

pub returns-in-Ok-clause-ok : goal.returns-in-Ok-clause-ok
returns-in-Ok-clause-ok g c = refreshes c.args.looker.now c.refresh.new.self c.in-Ok.ensures.held.0 c.in-Ok.ensures.held.1

pub returns-in-Err-clause-err : goal.returns-in-Err-clause-err
returns-in-Err-clause-err g c = refreshes_not c.args.looker.now c.refresh.new.self c.in-Err.ensures.held.0 c.in-Err.ensures.held.1
