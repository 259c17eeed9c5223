use Rattle.std.proofs.Common.{◌≡◌, ◌==◌, List, ℕ, ap, not, rules, subst, sym, ◌∙◌}
use Rattle.std.proofs.lemmas.Fn.{filter_same}
use Rattle.std.specs.Prelude.{All}
use Rattle.prt_service.proofs.Follows.{IsBelow, kept_below}
use Rattle.prt_service.proofs.followers.Followers.remove.Goals as goal
use Rattle.prt_service.specs.Follow.{others}

pub invariant_of-self : goal.invariant_of-self
invariant_of-self g c =
    let filtered = c.retain.ensures.filtered in
    let next : ℕ = c.self.inside.next in
    subst (λ (numbers : List ℕ). All (IsBelow next) numbers) (sym filtered.4) (kept_below next filtered.0 c.self.inside.recipients.items c.self.invariant)

pub returns-clause-left : goal.returns-clause-left
returns-clause-left g c =
    let numbers : List ℕ = c.self.inside.recipients.items in
    let number : ℕ = c.number.inside.value in
    let left : c.retain.new.self.items ≡ others number numbers = filter_same _ (λ one. not (one == number)) _ (λ x b f' k. search rules) _ _ c.retain.ensures.filtered in
    left ∙ ap (λ (one : ℕ). others one numbers) c.number.view_is ∙ ap (others c.args.number) c.self.view_is
