-- A row encodes at most one length.
use Rattle.std.proofs.Common.{◌≡◌, ap}
use Rattle.sqlite_value.specs.Order.{Row, column}
use Rattle.prt_rows.specs.SuppressRow.{suppress_row}
use Rattle.prt_rows.specs.declared.suppress_row.RuleLength.{RuleLength}
use Rattle.prt_rows.proofs.Cells.{same_number}

pub same_length : (length other : RuleLength) → suppress_row length ≡ suppress_row other → length ≡ other
same_length length other is =
    let at = λ (n : _) (row : Row). column row n in
    λ i. record { rule = same_number length.rule other.rule (ap (at 0) is) i; len = same_number length.len other.len (ap (at 1) is) i }
