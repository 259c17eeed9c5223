use Rattle.std.proofs.Common.{inr, Option, refl, subst}
use Rattle.std.specs.Prelude.{IfSome}
use Rattle.prt_host.proofs.Served.{has_served}
use Rattle.prt_host.specs.Serving.{IsFaultOfServing}
use Rattle.prt_host.specs.declared.server.ServeError.{ServeError}
use Rattle.prt_host.proofs.server.open_and_serve.Goals as goal

pub returns-in-None-clause-ok : goal.returns-in-None-clause-ok
returns-in-None-clause-ok g c =
    let made = c.in-Ok.ensures.opened in
    let left = c.listen_and_serve-failure.ensures.left in
    record {
      between = c.open_publisher-opened.new.opener;
      first = made.was;
      last = c.listen_and_serve-failure.result.1;
      is_opened = made.found;
      made = (has_served g.H.Store.Store _ _ _ made left.0 left.1, left.2 c.in-None.is);
      is_closed = c.close.ensures;
    }

pub returns-in-Some-clause-err : goal.returns-in-Some-clause-err
returns-in-Some-clause-err g c =
    let made = c.in-Ok.ensures.opened in
    let left = c.listen_and_serve-failure.ensures.left in
    inr (
      record {
        between = c.open_publisher-opened.new.opener;
        first = made.was;
        last = c.listen_and_serve-failure.result.1;
        is_opened = made.found;
        made = has_served g.H.Store.Store _ _ _ made left.0 left.1;
        is_closed = c.close.ensures;
      },
      subst (λ (f : Option ServeError). IfSome f (λ failure. IsFaultOfServing failure.fault)) c.in-Some.is c.listen_and_serve-failure.ensures.fault,
    )
