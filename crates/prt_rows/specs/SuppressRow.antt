-- The table of suppressed lengths: a row for each rule that has one.
use Rattle.std.specs.Prelude.{ℕ, List, [], ◌∷◌, codes}
use Rattle.sqlite.specs.Kind.TheVariants.{Integer}
use Rattle.sqlite_value.specs.Order.{Row}
use Rattle.prt_rows.specs.Cell.{IsWithin, number}
use Rattle.prt_rows.specs.Columns.{Column, row_of}
use Rattle.prt_rows.specs.declared.suppress_row.RuleLength.{RuleLength}

abbrev pub suppress_columns : List (Column RuleLength)
suppress_columns =
    (codes "rule", Integer, λ length. number length.rule)
    ∷ (codes "len", Integer, λ length. number length.len)
    ∷ []

abbrev pub suppress_row : RuleLength → Row
suppress_row = row_of suppress_columns

-- a length of at most 32, of a rule with an id of 1 to `last`
pub record IsLength (last : ℕ) (length : RuleLength) : Type 0 where
  pub rule : IsWithin 1 last length.rule
  pub len : IsWithin 0 32 length.len
