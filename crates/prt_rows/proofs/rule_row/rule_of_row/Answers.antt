use Rattle.std.proofs.Common.{◌≡◌, length, None, ap, refl, sym, ◌∙◌}
use Rattle.sqlite_value.specs.Order.{Row, column}
use Rattle.prt_rule.specs.declared.rule.Rule.{Rule}
use Rattle.prt_rows.specs.RuleRow.{rule_columns}
use Rattle.prt_rows.proofs.Columns.{row_of_cells}
use Rattle.prt_rows.proofs.rule_row.rule_of_row.Goals as goal

first : {r s : Row} → r ≡ s → column r 0 ≡ column s 0
first is = ap (λ (cells : Row). column cells 0) is

second : {r s : Row} → r ≡ s → column r 1 ≡ column s 1
second is = ap (λ (cells : Row). column cells 1) is

pub returns : goal.returns
returns c =
    let whole : length c.args.row.now ≡ 12 = sym c.column_count.ensures ∙ c.if-column_count-ne-RULE_WIDTH.false in
    let from = c.in_ok-prefix.ensures in
    let to = c.in_ok-prefix-2.ensures in
    let mark = c.in_ok-mark.ensures in
    let action = c.in_ok-action.ensures in
    -- the cells say nothing of its length
    let rule : Rule =
    record {
      id = c.in_ok-number_within.field-0;
      priority = c.in_ok-number.field-0;
      inverted = c.in_ok-flag.field-0;
      from = c.in_ok-prefix.field-0;
      to = c.in_ok-prefix-2.field-0;
      iif = c.in_ok-optional_name.field-0;
      mark = c.in_ok-mark.field-0;
      action = c.in_ok-action.field-0;
      suppress = None;
    } in (
      record { id = c.in_ok-number_within.ensures.0; priority = c.in_ok-number.ensures.0; from = from.0; to = to.0; iif = c.in_ok-optional_name.ensures.0; mark = mark.0; action = action.0; plain = refl },
      row_of_cells rule_columns rule _ whole (c.in_ok-number_within.ensures.1, (c.in_ok-number.ensures.1, (c.in_ok-flag.ensures.1, (first from.1, (second from.1, (first to.1, (second to.1, (c.in_ok-optional_name.ensures.1, (first mark.1, (second mark.1, (first action.1, (second action.1, tt)))))))))))),
    )
