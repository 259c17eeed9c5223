use Rattle.std.proofs.Common.{◌∙◌, inr, sym, subst}
use Rattle.sqlite.specs.Held.{Held}
use Rattle.prt_published.specs.Line.{line_state}
use Rattle.prt_publisher.specs.Openings.{HasOpened}
use Rattle.prt_questions.proofs.tables.database_tables.Goals as goal

pub returns-in-Ok-shared-clause-read : goal.returns-in-Ok-shared-clause-read
returns-in-Ok-shared-clause-read g c =
    let opened = c.in-Ok.ensures.opened in
    let stored = line_state c.in-Ok.desk.line in
    record {
      between = c.open_desk-opened.new.opener;
      first = opened.was;
      last = c.end.result;
      is_opened = opened.found;
      made = (stored, subst (λ (last : Held _). HasOpened g.H.Store.Store opened.was last stored) (sym c.end.ensures.tables) opened.opened, c.in-Ok-shared.ensures ∙ c.version.ensures);
      is_closed = c.close_at.ensures;
    }

pub returns-in-Err-shared-clause-unread : goal.returns-in-Err-shared-clause-unread
returns-in-Err-shared-clause-unread g c =
    let opened = c.in-Ok.ensures.opened in
    let stored = line_state c.in-Ok.desk.line in
    inr (record {
      between = c.open_desk-opened.new.opener;
      first = opened.was;
      last = c.end.result;
      is_opened = opened.found;
      made = (stored, subst (λ (last : Held _). HasOpened g.H.Store.Store opened.was last stored) (sym c.end.ensures.tables) opened.opened, tt);
      is_closed = c.close_at.ensures;
    })
