use Rattle.std.proofs.Common.{◌∙◌, IsPermutation, List, arith, rules, subst, sym}
use Rattle.prt_addr.specs.Rising.{IsRising}
use Rattle.prt_route.specs.Route.{is_listed_before}
use Rattle.prt_route.specs.declared.route.Route.{Route}
use Rattle.prt_rule.specs.Sound.{IsInOrder}
use Rattle.prt_rule.specs.declared.rule.Rule.{Rule}
use Rattle.prt_version.specs.Ordered.{AreRoutes, AreRules}
use Rattle.prt_version.specs.RowsSpell.{RowsSpell}
use Rattle.prt_version.proofs.FromRows.{ordered_sound, ordered_spelled, routes_damaged, rules_damaged}
use Rattle.prt_version.proofs.version.Version.from_rows.Goals as goal

pub returns-in_err-ordered-clause-reason : goal.returns-in_err-ordered-clause-reason
returns-in_err-ordered-clause-reason c = search (rules, rules_damaged c.args.number c.args.rules.items c.args.routes.items c.in_err-ordered.field-0.0 c.in_err-ordered.ensures.reason)

pub returns-in_err-routes-clause-reason : goal.returns-in_err-routes-clause-reason
returns-in_err-routes-clause-reason c = search (rules, routes_damaged c.args.number c.args.rules.items c.args.routes.items c.in_err-routes.field-0.0 c.in_err-routes.ensures.reason)

pub of-requires : goal.of-requires
of-requires c =
    ordered_sound c.args.number _ _ (omega arith)
    (subst (λ (rs : List Rule). AreRules c.args.number rs × IsInOrder rs) (sym (c.in_ok-first_owner.ensures.value ∙ c.in_ok-rules.ensures)) c.in_ok-ordered.ensures.value)
    (subst (λ (rs : List Route). AreRoutes rs × IsRising is_listed_before rs) (sym (c.in_ok-first_owner-2.ensures.value ∙ c.in_ok-tables.ensures ∙ c.deref.ensures.value)) c.in_ok-routes.ensures.value)

pub returns-clause-value : goal.returns-clause-value
returns-clause-value c =
    let rules_is = c.in_ok-first_owner.ensures.value ∙ c.in_ok-rules.ensures in
    let routes_is = c.in_ok-first_owner-2.ensures.value ∙ c.in_ok-tables.ensures ∙ c.deref.ensures.value in
    subst (RowsSpell c.args.number c.args.rules.items c.args.routes.items) (sym c.of.ensures)
    (ordered_spelled c.args.number _ _ (omega arith)
    (subst (λ (rs : List Rule). AreRules c.args.number rs × IsInOrder rs) (sym rules_is) c.in_ok-ordered.ensures.value)
    (subst (λ (rs : List Route). AreRoutes rs × IsRising is_listed_before rs) (sym routes_is) c.in_ok-routes.ensures.value)
    c.args.rules.items c.args.routes.items
    (subst (IsPermutation c.args.rules.items) (sym rules_is) c.in_ok-ordered.ensures.same)
    (subst (IsPermutation c.args.routes.items) (sym routes_is) c.in_ok-routes.ensures.same))
