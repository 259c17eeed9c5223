use Rattle.std.proofs.Common.{rules, ◌≡◌, Option, Some, refl, sym, ap, ◌∙◌, subst, inr}
use Rattle.std.specs.Arc.{arc_value}
use Rattle.prt_c.specs.Policies.{IsAfterLine, IsUnfollowed}
use Rattle.prt_c.specs.declared.policy_held.PolicyHeld.{PolicyHeld}
use Rattle.prt_c.specs.declared.policy_owner.PolicyOwner.{PolicyOwner}
use Rattle.prt_c.proofs.policy.prt_policy_follow.Goals as goal

pub returns-in-Err : goal.returns-in-Err
returns-in-Err c =
    let home : c.args.policy.now.home ≡ Some c.in-Some.parts.value = ap (λ (held : PolicyHeld). held.home) (sym c.replace.ensures.value) ∙ sym c.in-Some.ensures in
    let taken : c.deref_mut.result.now ≡ c.in-Some.parts.value = c.deref_mut.ensures.value ∙ c.into_box-owner.ensures in
    let unchanged : c.advance-done.new.owner ≡ c.deref_mut.result.now.policy = c.in-Err.ensures.same in
    let why : IsUnfollowed (arc_value c.in-Some.parts.value.policy) c.args.line.now c.in-Err.reason =
    subst (λ (owner : PolicyOwner). IsUnfollowed (arc_value owner.policy) c.args.line.now c.in-Err.reason) taken c.in-Err.ensures.reason in
    let same : c.of_parts.result.home ≡ Some c.in-Some.parts.value = search rules in
    subst (λ (held : Option PolicyOwner). IsAfterLine held c.args.line.now c.of_parts.result.home c.args.number.now c.args.number.now c.code.result) (sym home)
    (inr (record { reason = c.in-Err.reason; told = c.code.ensures; why = why; same = same; uncounted = refl }))
