use Rattle.std.proofs.Common.{ap, sym, subst}
use Rattle.sqlite.specs.Held.{Held}
use Rattle.prt_published.specs.Line.{Line}
use Rattle.prt_publisher.specs.Standing.{Standing}
use Rattle.prt_laws.specs.Laws.{Notes}
use Rattle.prt_laws.proofs.Exits.{noted}
use Rattle.prt_laws.proofs.calls.note.Goals as goal

pub returns : goal.returns
returns g c =
    let old = c.args.publisher.now in
    let new = c.note.new.self in
    let r = c.args.registry.now in
    let after = c.note.new.registry in
    subst (λ (told : Line). Notes g.S.Store old new r after told) (sym c.note.ensures.receipt)
    (ap (λ (p : Standing (Held _)). p.phase) c.note.ensures.same, λ w s. noted g.S.Store old new w s r after c.requires c.note.ensures.same c.note.ensures.registry)
