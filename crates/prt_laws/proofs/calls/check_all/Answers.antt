use Rattle.prt_laws.proofs.Submitted.{checks_not}
use Rattle.prt_laws.proofs.calls.check_all.Goals as goal

pub returns-in-Err-clause-err : goal.returns-in-Err-clause-err
returns-in-Err-clause-err g c = checks_not g.S.Store c.args.publisher.now c.args.commands.now c.in-Err.reason c.requires.some c.requires.quiet c.in-Err.ensures.err
