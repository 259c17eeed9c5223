use Rattle.std.proofs.Common.{[], ◌∷◌, ◌++◌, ap, below_more, subst, sym, arith, ◌∙◌}
use Rattle.prt_rule.specs.declared.rule.Rule.{Rule}
use Rattle.prt_partition.specs.Classes.{AreClasses}
use Rattle.prt_analyses.specs.Claims.{IsBreachOf}
use Rattle.prt_analyses.proofs.Breaches.{all_meet, at_class}
use Rattle.prt_analyses.proofs.claims.breach.find_breach.Goals as goal

pub loop-class-preserved : goal.loop-class-preserved
loop-class-preserved c =
    let state = c.args.version.now in
    let claim = c.args.claim.now in
    below_more _ _ c.loop-class.invariant
    (at_class state claim c.deref-class-items.result.now c.loop-class.class-index c.class-item.result (omega arith) c.class-item.is
    (subst (IsBreachOf state claim c.class-item.result) c.in_default.is c.in_ok-packet.ensures.value))

pub returns-clause-value : goal.returns-clause-value
returns-clause-value c =
    let classes = c.deref-class-items.result.now in
    let rules = c.deref.ensures.value ∙ c.in_ok-rules.ensures.value in
    all_meet c.args.version.now c.args.claim.now classes
    (subst (AreClasses _) (sym c.deref-class-items.ensures.value) (subst (λ rs. AreClasses rs c.in_ok-classes.classes.items) rules c.in_ok-classes.ensures.value))
    (λ k lt d. c.loop-class.invariant k (omega arith) d)
