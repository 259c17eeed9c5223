use Rattle.std.proofs.Common.{refl, subst, ◌∙◌}
use Rattle.prt_refusals.specs.declared.on_refusal.OnRefusal.TheVariants.{Stop}
use Rattle.prt_session.proofs.AtomicRuns.{read_is}
use Rattle.prt_session.specs.Atomic.{CollectMay, collect_turn}
use Rattle.prt_session.specs.Run.{RunIs}
use Rattle.prt_session.proofs.atomic.collect_commands.Goals as goal

pub returns-clause-run : goal.returns-clause-run
returns-clause-run g c =
    let commands = c.run_session-end.new.executor.commands.items in
    let reader0 = g.R.Read.remaining c.args.reader.now in
    let reader = g.R.Read.remaining c.run_session-end.new.reader in
    let writer0 = g.W.Write.contents c.args.writer.now in
    let writer = g.W.Write.contents c.run_session-end.new.writer in
    let end = c.run_session-end.result in
    let ran = c.run_session-end.ensures.run commands refl in
    subst (λ start. RunIs collect_turn CollectMay Stop start commands reader0 reader writer0 writer end) (ran.1 ∙ c.new-collector.ensures) ran.2

pub returns-clause-read : goal.returns-clause-read
returns-clause-read g c =
    let commands = c.run_session-end.new.executor.commands.items in
    let reader0 = g.R.Read.remaining c.args.reader.now in
    let reader = g.R.Read.remaining c.run_session-end.new.reader in
    let writer0 = g.W.Write.contents c.args.writer.now in
    let writer = g.W.Write.contents c.run_session-end.new.writer in
    let end = c.run_session-end.result in
    let ran = c.run_session-end.ensures.run commands refl in
    read_is commands reader0 reader writer0 writer end (subst (λ start. RunIs collect_turn CollectMay Stop start commands reader0 reader writer0 writer end) (ran.1 ∙ c.new-collector.ensures) ran.2)
