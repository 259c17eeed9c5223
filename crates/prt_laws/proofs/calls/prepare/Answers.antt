use Rattle.std.proofs.Common.{arith}
use Rattle.prt_replay.specs.declared.event.Event.TheVariants as events
use Rattle.prt_laws.proofs.Submitted.{prepares, prepares_not}
use Rattle.prt_laws.proofs.calls.prepare.Goals as goal

pub returns-in-Ok-clause-ok : goal.returns-in-Ok-clause-ok
returns-in-Ok-clause-ok g c = prepares g.S.Store c.args.publisher.now c.prepare.new.self (events.Submit c.args.command.now) (omega arith) c.in-Ok.ensures.ok.0 c.in-Ok.ensures.ok.1

pub returns-in-Err-clause-err : goal.returns-in-Err-clause-err
returns-in-Err-clause-err g c = prepares_not g.S.Store c.args.publisher.now c.prepare.new.self c.in-Err.ensures.err.0 (events.Submit c.args.command.now) (omega arith) c.in-Err.reason c.requires.quiet c.in-Err.ensures.err.1
