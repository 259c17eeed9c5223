use Rattle.std.proofs.Common.{◌<◌, List, length, sym, subst}
use Rattle.std.specs.Arc.{arc_value}
use Rattle.prt_rule.specs.declared.packet.Packet.{Packet}
use Rattle.prt_rule.specs.declared.rule.Rule.{Rule}
use Rattle.prt_partition.specs.Classes.{AreClasses}
use Rattle.prt_fib.specs.Policy.{AreNumberedOff, AreTablesOf, FindsClass, IsWhole}
use Rattle.prt_fib.specs.declared.class_tree.Class.{Class}
use Rattle.prt_fib.proofs.Classified.{some_class, whole_new}
use Rattle.prt_fib.proofs.policy.PolicyFib.new.Goals as goal

pub tree_of-requires : goal.tree_of-requires
tree_of-requires c =
    let packets : List Packet = c.in_ok-packets.packets.items in
    let classes : List Class = c.in_ok-classes.classes.items in
    let rules : List Rule = c.args.version.now.rules in
    let are : AreClasses rules packets = subst (λ rs. AreClasses rs packets) c.rules.ensures.value c.in_ok-packets.ensures.value in
    let numbered : AreNumberedOff packets classes = subst (λ ps. AreNumberedOff ps classes) c.deref.ensures.value c.in_ok-classes.ensures in
    subst (λ cs. 0 < length cs) (sym c.deref-2.ensures.value) (some_class rules packets classes are numbered)

pub invariant_of-result : goal.invariant_of-result
invariant_of-result c =
    let state = c.args.version.now in
    let packets : List Packet = c.in_ok-packets.packets.items in
    let classes : List Class = c.in_ok-classes.classes.items in
    let tables = c.in_ok-tables.tables.items in
    let tree = c.in_ok-tree.tree in
    let are : AreClasses state.rules packets = subst (λ rs. AreClasses rs packets) c.rules.ensures.value c.in_ok-packets.ensures.value in
    let numbered : AreNumberedOff packets classes = subst (λ ps. AreNumberedOff ps classes) c.deref.ensures.value c.in_ok-classes.ensures in
    let finds : FindsClass state.rules classes tree = subst (λ rs. FindsClass rs classes tree) c.rules-2.ensures.value (subst (λ cs. FindsClass c.rules-2.result.now cs tree) c.deref-2.ensures.value c.in_ok-tree.ensures) in
    let of : AreTablesOf state packets tables = subst (λ ps. AreTablesOf state ps tables) c.deref-3.ensures.value c.in_ok-tables.ensures.value in
    subst (λ s. IsWhole s tables (arc_value c.in_ok-new.field-0)) (sym c.in_ok-share.ensures)
    (subst (IsWhole state tables) (sym c.in_ok-new.ensures.ok) (whole_new state packets classes tables tree are numbered finds of))
