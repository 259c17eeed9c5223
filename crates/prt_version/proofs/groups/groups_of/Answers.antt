use Rattle.std.proofs.Common.{sym, subst}
use Rattle.std.specs.List.{AllByRecursion as Each}
use Rattle.prt_addr.proofs.Each.{each_append}
use Rattle.prt_version.specs.Groups.{IsGroup}
use Rattle.prt_version.proofs.Grouped.{one_group_more}
use Rattle.prt_version.proofs.groups.groups_of.Goals as goal

pub loop-rest-preserved : goal.loop-rest-preserved
loop-rest-preserved c = record {
  whole =
      one_group_more c.args.tables.now c.split_at.result.0.now c.split_at.result.1.now c.loop-rest.rest.now c.loop-rest.groups.items c.push.new.self.items c.in_ok-group_of.field-0
      c.loop-rest.invariant.whole (sym c.split_at.ensures.by_index.0) c.in_ok-group_of.ensures.tables c.in_ok-push.ensures.items;
  each = subst (Each IsGroup) (sym c.in_ok-push.ensures.items) (each_append IsGroup c.loop-rest.groups.items _ c.loop-rest.invariant.each (c.in_ok-group_of.ensures.group, tt));
}
