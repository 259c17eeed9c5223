use Rattle.std.proofs.Common.{arith}
use Rattle.prt_version.proofs.ByTable.{selected_more}
use Rattle.prt_version.proofs.shared_table.push_selected.Goals as goal

pub loop-table-preserved : goal.loop-table-preserved
loop-table-preserved c =
    selected_more c.args.selector.now c.args.tables.now c.loop-table.table-index c.table-item.result c.args.rows.now.items _ _ (omega arith) c.table-item.is c.loop-table.invariant c.in_ok-add_selected.ensures
