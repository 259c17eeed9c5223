use Rattle.prt_import.proofs.Executing.{ends}
use Rattle.prt_import.proofs.accepted.accept_over.Goals as goal

pub returns-clause-ok : goal.returns-clause-ok
returns-clause-ok c = ends _ _ _ _ _ c.loop-line.invariant c.in_default.ensures
