use Rattle.std.proofs.Common.{below_more, subst, sym, arith, ◌∙◌}
use Rattle.prt_partition.specs.Classes.{AreClasses}
use Rattle.prt_partition.specs.Equivalence.{IsChangeOf}
use Rattle.prt_partition.proofs.AllPackets.{at_class, one_way}
use Rattle.prt_partition.proofs.Verdicts.{equal_are_same}
use Rattle.prt_partition.proofs.equivalence.find_change.Goals as goal

pub loop-class-preserved : goal.loop-class-preserved
loop-class-preserved c =
    let sameness = c.args.sameness in
    let before = c.args.before.now in
    let after = c.args.after.now in
    below_more _ _ c.loop-class.invariant
    (at_class sameness before after c.deref-class-items.result.now c.loop-class.class-index c.class-item.result (omega arith) c.class-item.is
    (subst (IsChangeOf sameness before after c.class-item.result) c.in_default.is c.in_ok-packet.ensures))

pub returns-clause-value : goal.returns-clause-value
returns-clause-value c =
    let rules = c.deref.ensures.value ∙ c.in_ok-rules.ensures.value in
    let classes = c.deref-class-items.result.now in
    one_way c.args.sameness c.args.before.now c.args.after.now classes
    (subst (AreClasses _) (sym c.deref-class-items.ensures.value) (subst (λ rs. AreClasses rs c.in_ok-classes.classes.items) rules c.in_ok-classes.ensures.value))
    (λ k lt d. c.loop-class.invariant k (omega arith) d)

pub returns-then-is_same_everywhere-clause-value : goal.returns-then-is_same_everywhere-clause-value
returns-then-is_same_everywhere-clause-value c = λ packet is. equal_are_same c.args.sameness _ _ (c.in_ok-differing.ensures.value.quiet packet (c.is_same_everywhere.ensures c.if-is_same_everywhere.true packet))
