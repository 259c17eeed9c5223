use Rattle.std.proofs.Common.{◌≡◌, length, ap, sym, ◌∙◌}
use Rattle.sqlite_value.specs.Order.{Row, column}
use Rattle.prt_rows.specs.RouteRow.{route_columns}
use Rattle.prt_rows.proofs.Columns.{row_after_first}
use Rattle.prt_rows.proofs.route_row.route_of_row.Goals as goal

pub returns : goal.returns
returns c =
    let whole : length c.args.row.now ≡ 11 = sym c.column_count.ensures ∙ c.if-column_count.false in
    let net = ap (λ (cells : Row). column cells 0) c.in_ok-prefix.ensures.1 in
    let len = ap (λ (cells : Row). column cells 1) c.in_ok-prefix.ensures.1 in (
      record {
        table = c.in_ok-number.ensures.0;
        prefix = c.in_ok-prefix.ensures.0;
        metric = c.in_ok-number-2.ensures.0;
        via = c.in_ok-optional_addr.ensures.0;
        dev = c.in_ok-optional_name.ensures.0;
        src = c.in_ok-optional_addr-2.ensures.0;
        proto = c.in_ok-byte.ensures.0;
        scope = c.in_ok-byte-2.ensures.0;
      },
      row_after_first route_columns _ _ whole (c.in_ok-number.ensures.1, (net, (len, (c.in_ok-number-2.ensures.1, (c.in_ok-kind.ensures.1, (c.in_ok-optional_addr.ensures.1, (c.in_ok-optional_name.ensures.1, (c.in_ok-optional_addr-2.ensures.1, (c.in_ok-byte.ensures.1, (c.in_ok-byte-2.ensures.1, tt)))))))))),
    )
