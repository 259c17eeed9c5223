use Rattle.std.proofs.Common.{inl, inr, rules, subst, sym}
use Rattle.prt_questions.specs.Applying.{Leaves}
use Rattle.prt_questions.proofs.Applied.{makes_tables, over_found}
use Rattle.prt_questions.proofs.applying.apply_to_database.Goals as goal

pub returns-clause-whole : goal.returns-clause-whole
returns-clause-whole g c = λ done.
    let opened = c.in-Ok.ensures.opened in
    let made = c.apply_to_publisher-status.ensures in
    let left : Leaves g.H.Store.Store c.in-Ok.made.0 c.end-last.result = record { done = c.apply_to_publisher-status.new.publisher; its = sym c.end-last.ensures.tables; quiet = made.quiet; file = made.file; stands = c.end-last.ensures.stands } in
    record {
      between = c.open_publisher-opened.new.opener;
      first = opened.was;
      last = c.end-last.result;
      is_opened = subst (λ wanted. g.H-Opener-DatabaseOpener.opens wanted c.args.databases.now.opener c.open_publisher-opened.new.opener c.args.path.now opened.was) c.wanted_by.ensures opened.found;
      made = (c.in-Ok.made.0, over_found g.H.Store.Store _ _ opened, (left, makes_tables c.args.manner.is_dry_run c.args.wanted.now left made.dry (made.made done) (made.together done)), made.whole done);
      is_closed = c.close_at.ensures;
    }

pub returns-clause-at_most : goal.returns-clause-at_most
returns-clause-at_most g c =
    let opened = c.in-Ok.ensures.opened in
    let made = c.apply_to_publisher-status.ensures in
    let left : Leaves g.H.Store.Store c.in-Ok.made.0 c.end-last.result = record { done = c.apply_to_publisher-status.new.publisher; its = sym c.end-last.ensures.tables; quiet = made.quiet; file = made.file; stands = c.end-last.ensures.stands } in
    inr (record {
      between = c.open_publisher-opened.new.opener;
      first = opened.was;
      last = c.end-last.result;
      is_opened = subst (λ wanted. g.H-Opener-DatabaseOpener.opens wanted c.args.databases.now.opener c.open_publisher-opened.new.opener c.args.path.now opened.was) c.wanted_by.ensures opened.found;
      made = (c.in-Ok.made.0, over_found g.H.Store.Store _ _ opened, (left, made.dry), made.part);
      is_closed = c.close_at.ensures;
    })

pub returns-in-Err-clause-at_most : goal.returns-in-Err-clause-at_most
returns-in-Err-clause-at_most g c = rw (sym c.wanted_by.ensures) (inl (inr (c.in-Err.refused.0, c.in-Err.ensures.closed), search (rules, c.report_unopened.ensures)))
