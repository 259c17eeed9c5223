use Rattle.std.proofs.Common.{◌≡◌, ◌∙◌, ap, length, rules}
use Rattle.std.specs.Prelude.{nat_lt, position, unwrap_or}
use Rattle.prt_version.specs.Tables.{TableRows}
use Rattle.prt_version.proofs.ByTable.{put_table}
use Rattle.prt_version.proofs.shared_table.with_table_of.Goals as goal

pub returns : goal.returns
returns c =
    put_table c.args.route.now _ c.args.tables.items _ c.table_above.result c.unwrap_or-place.result c.in_ok-table.ensures c.in_ok-insert.ensures.items
    (c.table_above.ensures ∙ ap (position (λ (table : TableRows). nat_lt c.args.route.now.table table.number)) c.deref.ensures.value)
    (let len : c.len.result ≡ length c.args.tables.items = search rules in c.unwrap_or-place.ensures ∙ ap (unwrap_or c.table_above.result) len)
