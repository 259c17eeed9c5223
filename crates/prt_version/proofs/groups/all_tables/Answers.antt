use Rattle.std.proofs.Common.{arith}
use Rattle.prt_version.proofs.Grouped.{tables_more}
use Rattle.prt_version.proofs.groups.all_tables.Goals as goal

pub loop-group-preserved : goal.loop-group-preserved
loop-group-preserved c =
    tables_more c.args.groups.now c.loop-group.group-index c.group-item.result c.as_slice.result.now c.loop-group.tables.items _ (omega arith) c.group-item.is c.loop-group.invariant c.as_slice.ensures c.in_ok-push_shares.ensures
