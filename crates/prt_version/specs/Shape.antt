-- The tables of a version, in one list or in groups.
use Rattle.std.specs.Prelude.{◌≡◌, ℕ, ◌<◌, ◌≤◌, List, length}
use Rattle.prt_version.specs.Groups.{AreGroups, joined}
use Rattle.prt_version.specs.Tables.{AreTables, TableRows, all_rows}
use Rattle.prt_version.specs.declared.limits.TheConstants.{MOST_ROUTES}
use Rattle.prt_version.specs.declared.tables.Shape.{Shape}
use Rattle.prt_version.specs.declared.tables.Shape.TheVariants.{Few, Many}

abbrev pub tables_of : Shape → List TableRows
tables_of (Few tables) = tables.items
tables_of (Many groups) = joined groups.items

abbrev pub IsShape : Shape → Type 0
IsShape (Few tables) = AreTables tables.items
IsShape (Many groups) = AreGroups groups.items × (0 < length groups.items)

-- the tables have this many rows, and no more than a version may have
pub record AreWhole (shape : Shape) (len : ℕ) : Type 0 where
  pub tables : IsShape shape
  pub count : len ≡ length (all_rows (tables_of shape))
  pub room : length (all_rows (tables_of shape)) ≤ MOST_ROUTES
