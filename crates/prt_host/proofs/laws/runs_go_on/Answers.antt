use Rattle.prt_host.proofs.Runs.{asked_is_found, run_begins, run_is_found, service_is_found}
use Rattle.prt_host.proofs.laws.runs_go_on.Goals as goal

pub returns : goal.returns
returns g c =
    record { begins = run_begins g.S.Store g.M.DatabaseOpener; run = run_is_found g.S.Store g.M.DatabaseOpener; served = service_is_found g.S.Store; asked = asked_is_found g.S.Store }
