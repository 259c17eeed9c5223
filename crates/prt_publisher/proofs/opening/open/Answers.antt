use Rattle.prt_publisher.proofs.Openings.{memory_refused}
use Rattle.prt_publisher.proofs.opening.open.Goals as goal

pub returns-in-Err-begin-clause-refused : goal.returns-in-Err-begin-clause-refused
returns-in-Err-begin-clause-refused g c = memory_refused g.S.Store c.args.conn c.in-Ok.loaded.store.conn c.release.result c.in-Err-begin.reason c.in-Ok.loaded.version c.in-Err-begin.ensures.reason c.release.ensures c.in-Ok.ensures.opened
