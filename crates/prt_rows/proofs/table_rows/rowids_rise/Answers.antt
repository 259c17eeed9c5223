use Rattle.std.proofs.Common.{sym, ◌∙◌}
use Rattle.prt_rows.proofs.Rising.{rise_stops}
use Rattle.prt_rows.proofs.table_rows.rowids_rise.Goals as goal

pub returns-in_default : goal.returns-in_default
returns-in_default c =
    sym (c.loop-row.invariant ∙ rise_stops c.args.rows.now c.loop-row.row-index c.row-item.result c.loop-row.last c.loop-row-test.true c.row-item.is (λ n is. c.in_default.ensures n tt is))
