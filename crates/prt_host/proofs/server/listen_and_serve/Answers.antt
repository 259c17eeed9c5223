use Rattle.std.proofs.Common.{[], refl, sym}
use Rattle.prt_host.proofs.Served.{left_alone}
use Rattle.prt_host.proofs.server.listen_and_serve.Goals as goal

pub returns-in-Err-clause-left : goal.returns-in-Err-clause-left
returns-in-Err-clause-left g c = (
  [],
  left_alone g.H.Store.Store _ _ _ c.args.publisher.line _ (record { last = c.args.publisher; its = sym c.end.ensures.tables; line = refl; quiet = c.requires; named = (refl, refl, refl); stands = c.end.ensures.stands }),
  (λ none. absurd (cc none)),
)
