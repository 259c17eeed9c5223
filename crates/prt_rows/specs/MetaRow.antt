-- The table meta: the form of the file, and how many commands were accepted.
use Rattle.std.specs.Prelude.{ℕ, List, [], ◌∷◌, codes}
use Rattle.sqlite.specs.Kind.TheVariants.{Integer}
use Rattle.sqlite_value.specs.Order.{Row}
use Rattle.prt_rows.specs.Cell.{IsWithin, number}
use Rattle.prt_rows.specs.Columns.{Column, row_of}

abbrev pub meta_columns : List (Column ℕ)
meta_columns =
    (codes "id", Integer, λ count. number 1)
    ∷ (codes "format", Integer, λ count. number 2)
    ∷ (codes "count", Integer, λ count. number count)
    ∷ []

abbrev pub meta_row : ℕ → Row
meta_row = row_of meta_columns

-- the row in a file of this format
abbrev pub meta_row_in : ℕ → ℕ → Row
meta_row_in format count = number 1 ∷ number format ∷ number count ∷ []

-- the row in a file of format 1
abbrev pub meta_row_1 : ℕ → Row
meta_row_1 = meta_row_in 1

-- the one row of the table
abbrev pub meta_rows : ℕ → List Row
meta_rows count = meta_row count ∷ []

abbrev pub meta_rows_1 : ℕ → List Row
meta_rows_1 count = meta_row_1 count ∷ []

abbrev pub IsCount : ℕ → Type 0
IsCount = IsWithin 0 1000000000000000
