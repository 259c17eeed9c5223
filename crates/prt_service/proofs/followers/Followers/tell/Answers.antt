use Rattle.std.proofs.Common.{List, ℕ, subst, sym}
use Rattle.std.specs.Prelude.{All}
use Rattle.prt_service.proofs.Follows.{IsBelow, kept_below}
use Rattle.prt_service.proofs.followers.Followers.tell.Goals as goal

pub invariant_of-self : goal.invariant_of-self
invariant_of-self g c =
    let filtered = c.retain.ensures.filtered in
    let next : ℕ = c.self.inside.next in
    subst (λ (numbers : List ℕ). All (IsBelow next) numbers) (sym filtered.4) (kept_below next filtered.0 c.self.inside.recipients.items c.self.invariant)
