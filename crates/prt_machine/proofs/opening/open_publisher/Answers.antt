use Rattle.std.proofs.Common.{◌≡◌, inr, Ok, subst}
use Rattle.std.specs.Prelude.{IfOk, OnOk, Result}
use Rattle.sqlite.specs.Held.{Held}
use Rattle.prt_publisher.specs.Openings.{RefusesToOpen}
use Rattle.prt_machine.proofs.opening.open_publisher.Goals as goal

pub returns-in-Ok-clause-opened : goal.returns-in-Ok-clause-opened
returns-in-Ok-clause-opened g c =
    let made = c.in-Ok.ensures.ok in
    record {
      was = made.was;
      found = subst (λ (r : Result (Held _) _). IfOk r (g.M.DatabaseOpener.opens c.args.wanted c.args.opener.now c.open.new.self c.args.path.now)) made.found c.open.ensures.opened;
      format = made.format;
      opened = made.opened;
      begun = made.begun;
    }

pub returns-in-Ok-clause-there : goal.returns-in-Ok-clause-there
returns-in-Ok-clause-there g c = λ ours. subst (λ (r : Result (Held _) _). OnOk r (g.M.DatabaseOpener.is_there c.args.opener.now c.args.path.now)) c.in-Ok.ensures.ok.found (c.open.ensures.there ours)

pub returns-in-Err-default-Ok-clause-closed : goal.returns-in-Err-default-Ok-clause-closed
returns-in-Err-default-Ok-clause-closed g c =
    let refused : RefusesToOpen g.S.Store (λ was. c.open.result ≡ Ok was) c.in-Err-default-Ok.refusal c.in-Err-default-Ok.conn = subst (λ (r : Result (Held _) _). IfOk r (RefusesToOpen g.S.Store (λ was. c.open.result ≡ Ok was) c.in-Err-default-Ok.refusal)) c.in-Err-default-Ok.field-0-1-is c.in-Err-default-Ok.ensures.err in
    let closed = c.close_refused-reason.ensures in
    inr (record {
      between = c.open.new.self;
      first = refused.was;
      last = closed.0;
      is_opened = subst (λ (r : Result (Held _) _). IfOk r (g.M.DatabaseOpener.opens c.args.wanted c.args.opener.now c.open.new.self c.args.path.now)) refused.found c.open.ensures.opened;
      made = (c.in-Err-default-Ok.conn, refused.refused, closed.1);
      is_closed = closed.2;
    })
