use Rattle.std.proofs.Common.{◌≡◌, Option, List, ℕ, Err, ap, inl, inr, subst, sym, ◌∙◌}
use Rattle.prt_published.specs.Line.{Line}
use Rattle.prt_refusals.specs.declared.refusal.Refusal.{Refusal}
use Rattle.prt_serve.proofs.Scripts.{together_grows}
use Rattle.prt_serve.proofs.Resuming.{all_gone}
use Rattle.prt_serve.specs.ScriptHeader.{HasDrained}
use Rattle.prt_serve.specs.Resumed.{resumed_remaining, unread_head}
use Rattle.prt_serve.specs.Together.{ScriptIs, ServesTogether, ToldIs}
use Rattle.prt_service.specs.Look.{Look}
use Rattle.prt_service.specs.declared.submit_error.SubmitError.TheVariants as why
use Rattle.prt_serve.proofs.atomic.serve_atomic.Goals as goal

pub returns-in-Err-clause-served : goal.returns-in-Err-clause-served
returns-in-Err-clause-served g c =
    let end = c.refuse-end.result in
    let writer0 = g.W.Write.contents c.args.writer.now in
    let writer = g.W.Write.contents c.refuse-end.new.writer in
    inr (record {
      same = ap (λ (l : Look). l.known) c.rest.ensures;
      read = c.in-Err.ensures.fault.1;
      told = subst (λ (reason : Refusal). ToldIs 0 (Err (why.Refused reason)) writer0 writer end) c.in-Err.ensures.fault.0 c.refuse-end.ensures;
    })

pub returns-clause-served : goal.returns-clause-served
returns-clause-served g c =
    let remaining = g.R.Read.remaining in
    let known0 = c.args.looker.now.known in
    let known = c.serve_script-end.new.looker.known in
    let header = c.in-Ok.opened.0 in
    let file = c.serve_script-end.new.reader in
    let inner = c.into_reader.result in
    let given = resumed_remaining (resumed_remaining remaining) c.in-Ok.opened.1 in
    let left = resumed_remaining (resumed_remaining remaining) file in
    let writer0 = g.W.Write.contents c.args.writer.now in
    let writer = g.W.Write.contents c.serve_script-end.new.writer in
    let end = c.serve_script-end.result in
    let same : c.rest.new.self.known ≡ known0 = ap (λ (l : Look). l.known) c.rest.ensures in
    let gone : HasDrained (resumed_remaining remaining inner) (remaining c.drain.new.reader) =
    all_gone (unread_head inner) (remaining c.into_reader-reader.result) (remaining c.drain.new.reader) (resumed_remaining remaining inner) c.into_reader-reader.ensures c.drain.ensures in
    inl (record {
      header = header;
      given = given;
      opens = c.in-Ok.ensures.opens;
      left = left;
      file = subst (λ (line : Line). ScriptIs header line known given left writer0 writer end) same c.serve_script-end.ensures.served;
      goes = all_gone (unread_head file) (resumed_remaining remaining inner) (remaining c.drain.new.reader) left c.into_reader.ensures gone;
    })
