use Rattle.prt_publisher.proofs.Kept.{found_is_stored}
use Rattle.prt_machine.proofs.databases.DatabaseFilesDatabases.close.Goals as goal

pub returns-in-Ok-clause-left : goal.returns-in-Ok-clause-left
returns-in-Ok-clause-left g c = found_is_stored g.H.Store.Store c.args.desk c.end.ensures.kept

pub returns-in-Err-clause-left : goal.returns-in-Err-clause-left
returns-in-Err-clause-left g c = found_is_stored g.H.Store.Store c.args.desk c.end.ensures.kept
