use Rattle.std.proofs.Common.{[], ap, arith, length, subst, sym}
use Rattle.prt_partition.specs.Boxes.{AreNames}
use Rattle.prt_partition.proofs.BoxList.{names_step, no_names, one_name_more}
use Rattle.prt_partition.proofs.interfaces.names_of.Goals as goal

pub loop-rule-init : goal.loop-rule-init
loop-rule-init c = record {
  are = subst (AreNames []) (sym c.new-names.ensures.items) no_names;
  few = omega (arith, ap length c.new-names.ensures.items);
}

pub loop-rule-preserved : goal.loop-rule-preserved
loop-rule-preserved c = record {
  are = names_step c.args.rules.now c.loop-rule.rule-index c.rule-item.result c.loop-rule.names.items c.push_name.new.names.items (omega arith) c.rule-item.is c.in_ok-push_name.ensures c.loop-rule.invariant.are;
  few = omega (arith, one_name_more c.loop-rule.names.items c.rule-item.result.iif, ap length c.in_ok-push_name.ensures);
}
