use Rattle.std.proofs.Common.{arith}
use Rattle.prt_replay.specs.declared.event.Event.TheVariants as events
use Rattle.prt_laws.proofs.Submitted.{submits_it, submits_not}
use Rattle.prt_laws.proofs.calls.submit.Goals as goal

pub returns-in-Ok-clause-ok : goal.returns-in-Ok-clause-ok
returns-in-Ok-clause-ok g c = submits_it g.S.Store c.args.publisher.now c.submit.new.self (events.Submit c.args.command.now) (omega arith) c.in-Ok.ensures.took c.in-Ok.receipt c.in-Ok.ensures.ok.0 c.in-Ok.ensures.ok.1 c.submit.ensures.stands

pub returns-in-Err-clause-err : goal.returns-in-Err-clause-err
returns-in-Err-clause-err g c = submits_not g.S.Store c.args.publisher.now c.submit.new.self (events.Submit c.args.command.now) c.in-Err.reason (omega arith) c.requires.quiet c.in-Err.ensures.err c.submit.ensures.stands
