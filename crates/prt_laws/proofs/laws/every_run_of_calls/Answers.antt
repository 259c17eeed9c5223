use Rattle.prt_laws.proofs.Fitting.{run_goes_on, run_leaves, stop_leaves}
use Rattle.prt_laws.proofs.Runs.{ran}
use Rattle.prt_laws.proofs.laws.every_run_of_calls.Goals as goal

pub returns : goal.returns
returns g c = record { stands = ran g.S.Store; leaves = run_leaves g.S.Store; stopped = stop_leaves g.S.Store; goes_on = run_goes_on g.S.Store }
