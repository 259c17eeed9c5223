use Rattle.std.proofs.Common.{ap, refl, rules, subst, sym}
use Rattle.prt_published.specs.Line.{Line}
use Rattle.prt_serve.specs.Requests.{service_may, service_turn}
use Rattle.prt_service.specs.Look.{Look}
use Rattle.prt_session.specs.Run.{RunIs}
use Rattle.prt_refusals.specs.declared.on_refusal.OnRefusal.TheVariants.{GoOn}
use Rattle.prt_serve.proofs.session.run_visit.Goals as goal

-- the looker knows one list at a time
pub returns-clause-run : goal.returns-clause-run
returns-clause-run g c =
    let known = c.run_session.new.executor.looker.now.known in
    let ran = c.run_session.ensures.run known refl in
    subst (λ (l : Line). RunIs service_turn service_may GoOn c.args.looker.now.known l (g.R.Read.remaining c.args.reader.now) (g.R.Read.remaining c.run_session.new.reader) (g.W.Write.contents c.args.writer.now) (g.W.Write.contents c.run_session.new.writer) c.run_session.result)
    (sym (ap (λ (l : Look). l.known) (c.looker-1.given.1 (search (rules, c.run_session.ensures.keeps.0)))))
    (subst (λ (l : Line). RunIs service_turn service_may GoOn l known (g.R.Read.remaining c.args.reader.now) (g.R.Read.remaining c.run_session.new.reader) (g.W.Write.contents c.args.writer.now) (g.W.Write.contents c.run_session.new.writer) c.run_session.result) ran.1 ran.2)
