use Rattle.std.proofs.Common.{◌≡◌, ◌∙◌, ap, arith, length}
use Rattle.prt_version.specs.Tables.{TableRows}
use Rattle.prt_version.proofs.ByTable.{count_more, count_within}
use Rattle.prt_version.proofs.shared_table.count_rows.Goals as goal

len_is : (c : goal.After-len-count) → c.len-count.result ≡ length c.table-item.result.rows
len_is c = c.len-count.ensures.value ∙ ap length (c.deref.ensures ∙ ap (λ (table : TableRows). table.rows) c.table.view_is)

pub overflow_add-count : goal.overflow_add-count
overflow_add-count c = let len : c.len-count.result ≡ length c.table-item.result.rows = len_is c in omega (arith, count_within c.args.tables.now c.loop-table.table-index c.table-item.result (omega arith) c.table-item.is, c.loop-table.invariant)

pub loop-table-preserved : goal.loop-table-preserved
loop-table-preserved c = let len : c.len-count.result ≡ length c.table-item.result.rows = len_is c in omega (arith, count_more c.args.tables.now c.loop-table.table-index c.table-item.result (omega arith) c.table-item.is, c.loop-table.invariant)
