use Rattle.std.proofs.Common.{drop, refl, subst, take-append-drop}
use Rattle.prt_published.specs.Line.{Begins, Line}
use Rattle.prt_published.proofs.told.Told.known.Goals as goal

pub returns : goal.returns
returns c =
    let told = c.self.inside in
    subst (λ (line : Line). Begins line told.known) c.self.view_is (refl, refl, (drop told.count told.known.list, take-append-drop told.count told.known.list))
