-- Rows that encode nothing, among rows that were read.
use Rattle.std.specs.Prelude.{◌≡◌, ℤ, List, Contains}
use Rattle.sqlite_value.specs.Order.{Row, column}
use Rattle.sqlite_value.specs.declared.value.Value.TheVariants.{Int}

-- a row of this rowid is among the rows, and encodes nothing
pub record HasBadRow (Spells : Row → Type 0) (rows : List Row) (id : ℤ) : Type 0 where
  pub cells : Row
  pub there : Contains rows cells
  pub named : column cells 0 ≡ Int id
  pub spells_none : Spells cells → ⊥
