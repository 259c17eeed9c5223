use Rattle.prt_laws.proofs.Works.{run_is_work, runs_hold, stop_is_work}
use Rattle.prt_laws.proofs.laws.runs_are_works.Goals as goal

pub returns : goal.returns
returns c = record { run = run_is_work; stopped = stop_is_work; hold = runs_hold }
