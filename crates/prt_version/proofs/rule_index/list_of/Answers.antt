use Rattle.std.proofs.Common.{◌≡◌, ℕ, true, false, eqb, subst, sym, ◌∙◌, ⊎_elim}
use Rattle.std.specs.List.{Contains}
use Rattle.std.proofs.lemmas.Bool.{cases_Bool, eqb-true}
use Rattle.prt_version.specs.RuleIndex.{lists_for}
use Rattle.prt_version.proofs.RuleIndexes.{told_beside, told_by_destination, told_by_source}
use Rattle.prt_version.proofs.rule_index.list_of.Goals as goal

not_zero : (list is : ℕ) → list ≡ is → (list ≡ 0 → ⊥) → eqb is 0 ≡ false
not_zero list is same some = ⊎_elim (λ (none : eqb is 0 ≡ true). absurd (some (same ∙ eqb-true is 0 none))) (λ (other : eqb is 0 ≡ false). other) (cases_Bool (eqb is 0))

pub returns-then-from-ne-REST-clause-told : goal.returns-then-from-ne-REST-clause-told
returns-then-from-ne-REST-clause-told c packet h =
    subst (Contains (lists_for packet)) (sym c.list_in-from.ensures.value)
    (told_by_source packet c.args.rule.now c.if-rule.false h c.list_in-from.ensures.prefix (not_zero _ _ c.list_in-from.ensures.value c.if-from-ne-REST.true))

pub returns-then-to-ne-REST-clause-told : goal.returns-then-to-ne-REST-clause-told
returns-then-to-ne-REST-clause-told c packet h =
    subst (Contains (lists_for packet)) (sym c.list_in-to.ensures.value)
    (told_by_destination packet c.args.rule.now c.if-rule.false h c.list_in-to.ensures.prefix (not_zero _ _ c.list_in-to.ensures.value c.if-to-ne-REST.true))

pub returns-clause-told : goal.returns-clause-told
returns-clause-told c packet h = subst (Contains (lists_for packet)) (sym c.list_beside.ensures.value) (told_beside packet c.args.rule.now c.if-rule.false h)
