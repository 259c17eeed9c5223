use Rattle.prt_replay.specs.declared.event.Event.TheVariants as events
use Rattle.prt_laws.proofs.Submitted.{submits_it, submits_not}
use Rattle.prt_laws.proofs.calls.submit_all.Goals as goal

pub returns-in-Ok-clause-ok : goal.returns-in-Ok-clause-ok
returns-in-Ok-clause-ok g c =
    submits_it g.S.Store c.args.publisher.now c.submit_all.new.self (events.SubmitAll c.args.commands.now) c.requires.some c.in-Ok.ensures.took c.in-Ok.receipt c.in-Ok.ensures.ok.0 c.in-Ok.ensures.ok.1 c.submit_all.ensures.stands

pub returns-in-Err-clause-err : goal.returns-in-Err-clause-err
returns-in-Err-clause-err g c = submits_not g.S.Store c.args.publisher.now c.submit_all.new.self (events.SubmitAll c.args.commands.now) c.in-Err.reason c.requires.some c.requires.quiet c.in-Err.ensures.err c.submit_all.ensures.stands
