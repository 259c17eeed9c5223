use Rattle.std.proofs.Common.{Bool, subst}
use Rattle.std.specs.Prelude.{MatchBool}
use Rattle.prt_published.specs.Line.{Begins}
use Rattle.prt_serve.proofs.Kept.{keeps_more}
use Rattle.prt_serve.specs.Kept.{Keeps, Work}
use Rattle.prt_serve.proofs.shift.Shift.is_kept_by.Goals as goal

pub returns-clause-kept : goal.returns-clause-kept
returns-clause-kept g c is =
    let known = c.self.inside.departure in
    let published = c.args.published.now in
    let begins : Begins known published = subst (λ (b : Bool). MatchBool b (Begins known published) (Begins published known)) is c.is_before.ensures in
    subst (Keeps published) c.self.view_is (keeps_more known published begins (record { known = known; served = c.self.inside.served }) c.self.invariant.2)
