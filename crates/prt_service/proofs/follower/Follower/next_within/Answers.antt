use Rattle.std.proofs.Common.{◌≡◌, ◌∙◌, subst, sym}
use Rattle.prt_published.specs.Line.{Line, grown}
use Rattle.prt_service.proofs.Following.{learned}
use Rattle.prt_service.proofs.follower.Follower.next_within.Goals as goal

pub returns : goal.returns
returns g c =
    let known = c.self.inside.told in
    let told = c.number.inside.told in
    let command = c.number.inside.command in
    let base = c.number.invariant.1 ∙ sym c.self.invariant.1 in
    let is : told ≡ grown known command = learned c.is_before-is_before.result known told c.known.result.now c.known-2.result.now command c.self.inside.number c.number.inside.number c.is_before-is_before.ensures c.known.ensures c.known-2.ensures c.number.invariant.2 base c.self.invariant.2 c.number.invariant.3 c.if-number-self.false in
    subst (λ (line : Line). told ≡ grown line command) c.self.view_is is
