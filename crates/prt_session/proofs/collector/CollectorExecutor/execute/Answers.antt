use Rattle.std.proofs.Common.{arith, refl, ◌∙◌}
use Rattle.prt_session.proofs.Collected.{more_fit, without_memory}
use Rattle.prt_session.proofs.collector.CollectorExecutor.execute.Goals as goal

pub returns-in-Ok-clause-fits : goal.returns-in-Ok-clause-fits
returns-in-Ok-clause-fits c = rw c.in-Ok.ensures.items (more_fit c.args.self.now.commands.items c.in-Some.command.now (omega arith) c.requires.fits (rw c.in-Some.ensures at c.requires.storable))

pub returns-in-Err-clause-turn : goal.returns-in-Err-clause-turn
returns-in-Err-clause-turn c = λ after stands.
    (c.args.self.now.commands.items, refl, rw (stands ∙ c.in-Err.ensures.items) (without_memory c.args.self.now.commands.items c.args.request.now c.in-Some.command.now c.in-Some.ensures (omega arith)))
