use Rattle.prt_replay.specs.declared.event.Event.TheVariants as events
use Rattle.prt_laws.proofs.Submitted.{prepares, prepares_not}
use Rattle.prt_laws.proofs.calls.prepare_all.Goals as goal

pub returns-in-Ok-clause-ok : goal.returns-in-Ok-clause-ok
returns-in-Ok-clause-ok g c = prepares g.S.Store c.args.publisher.now c.prepare_all.new.self (events.SubmitAll c.args.commands.now) c.requires.some c.in-Ok.ensures.ok.0 c.in-Ok.ensures.ok.1

pub returns-in-Err-clause-err : goal.returns-in-Err-clause-err
returns-in-Err-clause-err g c = prepares_not g.S.Store c.args.publisher.now c.prepare_all.new.self c.in-Err.ensures.err.0 (events.SubmitAll c.args.commands.now) c.requires.some c.in-Err.reason c.requires.quiet c.in-Err.ensures.err.1
