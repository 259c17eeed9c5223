use Rattle.std.proofs.Common.{◌≡◌, inr, List, refl, subst, sym}
use Rattle.std.specs.Prelude.{ℕ, IfOk}
use Rattle.sqlite.specs.Held.{Held}
use Rattle.prt_ask.specs.Answers.{AreNotes}
use Rattle.prt_published.specs.Line.{line_state}
use Rattle.prt_publisher.specs.Openings.{HasOpened}
use Rattle.prt_questions.specs.Asking.{named_answer}
use Rattle.prt_questions.proofs.Asked.{whole_answer}
use Rattle.prt_questions.proofs.asking.ask_database.Goals as goal

pub returns : goal.returns
returns g c =
    let opened = c.in-Ok.ensures.opened in
    let stored = line_state c.in-Ok.desk.line in
    let kept : HasOpened g.H.Store.Store opened.was c.end.result stored = subst (λ (last : Held _). HasOpened g.H.Store.Store opened.was last stored) (sym c.end.ensures.tables) opened.opened in
    let text : List ℕ = named_answer c.args.inquiry.now stored in
    let says = subst (λ state. IfOk c.named_answer-answered.result (λ made. made.text.items ≡ named_answer c.args.inquiry.now state)) c.version.ensures c.named_answer-answered.ensures.text in
    let notes = subst (λ state. IfOk c.named_answer-answered.result (λ made. AreNotes c.args.inquiry.now.question state made.notes)) c.version.ensures c.named_answer-answered.ensures.notes in
    record {
      status = c.write_answer.ensures.status;
      whole = λ done. record {
        between = c.open_desk-opened.new.opener;
        first = opened.was;
        last = c.end.result;
        is_opened = opened.found;
        made = (stored, kept, (c.write_answer.ensures.whole text says done, whole_answer c.args.inquiry.now.question stored c.named_answer-answered.result notes (c.write_answer.ensures.change done)));
        is_closed = c.close_at.ensures;
      };
      there = λ done. c.in-Ok.ensures.there refl;
      at_most = inr (record {
        between = c.open_desk-opened.new.opener;
        first = opened.was;
        last = c.end.result;
        is_opened = opened.found;
        made = (stored, kept, c.write_answer.ensures.part text says);
        is_closed = c.close_at.ensures;
      });
    }
