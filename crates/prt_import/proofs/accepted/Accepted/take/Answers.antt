use Rattle.prt_import.specs.Told.{numbered}
use Rattle.prt_import.proofs.Executing.{takes_unless_no_memory}
use Rattle.prt_import.proofs.accepted.Accepted.take.Goals as goal

pub returns-in-Err-clause-ok : goal.returns-in-Err-clause-ok
returns-in-Err-clause-ok c = takes_unless_no_memory c.take_refused.result c.args.self.now c.take_refused.new.self (numbered c.args.source) c.in-Err.refusal c.in-Err.ensures.reason c.take_refused.ensures.of_line c.take_refused.ensures.ok
