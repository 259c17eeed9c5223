use Rattle.std.proofs.Common.{◌≡◌, ap, subst, sym}
use Rattle.prt_published.specs.Line.{Line}
use Rattle.prt_serve.specs.Requests.{service_may, service_turn}
use Rattle.prt_serve.specs.Serving.{Serves}
use Rattle.prt_serve.proofs.Sessions.{shows_path}
use Rattle.prt_service.specs.Look.{Look}
use Rattle.prt_session.proofs.Length.{session_taken}
use Rattle.prt_session.specs.Run.{RunIs}
use Rattle.prt_refusals.specs.declared.on_refusal.OnRefusal.TheVariants.{GoOn}
use Rattle.prt_serve.proofs.session.serve_session.Goals as goal

pub returns-clause-served : goal.returns-clause-served
returns-clause-served g c =
    let known0 = c.args.looker.now.known in
    let known = c.run_visit-end.new.looker.known in
    let first : c.rest.new.self.known ≡ known0 = ap (λ (l : Look). l.known) c.rest.ensures in
    let last : c.rest-2.new.self.known ≡ known = ap (λ (l : Look). l.known) c.rest-2.ensures in
    let reader0 = g.R.Read.remaining c.args.reader.now in
    let reader = g.R.Read.remaining c.run_visit-end.new.reader in
    let writer0 = g.W.Write.contents c.args.writer.now in
    let writer = g.W.Write.contents c.run_visit-end.new.writer in
    let run : RunIs service_turn service_may GoOn known0 known reader0 reader writer0 writer c.run_visit-end.result =
    subst (λ (l : Line). RunIs service_turn service_may GoOn l known reader0 reader writer0 writer c.run_visit-end.result) first c.run_visit-end.ensures.run in
    let served : Serves known0 known reader0 reader writer0 writer c.run_visit-end.result =
    record { run = run; shows = shows_path known0 known _ run.path; ends = session_taken service_turn known0 run.input GoOn run.mishaps } in
    subst (λ (l : Line). Serves known0 l reader0 reader writer0 writer c.run_visit-end.result) (sym last) served
