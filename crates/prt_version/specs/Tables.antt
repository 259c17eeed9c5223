-- The routes of a version, one table after another.
use Rattle.std.specs.Prelude.{◌≡◌, ℕ, Bool, true, false, ◌==◌, nat_lt, if◌then◌else◌, List, [], ◌∷◌, ◌++◌, Option, Some, filter, map}
use Rattle.std.specs.List.{list_any, AllByRecursion as Each}
use Rattle.prt_addr.specs.Given.{agrees}
use Rattle.prt_addr.specs.Order.{insert_by}
use Rattle.prt_addr.specs.Rising.{IsRising}
use Rattle.prt_route.specs.Edit.{after_edit}
use Rattle.prt_route.specs.declared.edit.RouteEdit.{RouteEdit}
use Rattle.prt_route.specs.declared.edit.RouteEdit.TheVariants.{Put, Remove, Flush}
use Rattle.prt_route.specs.declared.route.Route.{Route}

-- a table's number, and its routes in the order of listings
pub record TableRows : Type 0 where
  pub number : ℕ
  pub rows : List Route

abbrev pub is_lower : TableRows → TableRows → Bool
is_lower table other = nat_lt table.number other.number

abbrev pub has_rows : TableRows → Bool
has_rows table = elim table.rows [ [] ↦ false | row ∷ rows ↦ true ]

abbrev pub HasOwnRows : TableRows → Type 0
HasOwnRows table = Each (λ row. row.table ≡ table.number) table.rows

-- the tables rise by their numbers, and each has rows, which are its own
pub record AreTables (tables : List TableRows) : Type 0 where
  pub rise : IsRising is_lower tables
  pub own : Each HasOwnRows tables
  pub filled : Each (λ table. has_rows table ≡ true) tables

-- the rows of all tables, one table after another
abbrev pub all_rows : List TableRows → List Route
all_rows [] = []
all_rows (table ∷ tables) = table.rows ++ all_rows tables

-- the routes of one table
abbrev pub rows_of_table : ℕ → List Route → List Route
rows_of_table number routes = filter (λ route. route.table == number) routes

abbrev pub has_table : ℕ → List TableRows → Bool
has_table number tables = list_any (λ table. table.number == number) tables

-- ---- an edit, table by table

-- whether the edit may change a row of the table
abbrev pub names_table : RouteEdit → ℕ → Bool
names_table (Put route) number = route.table == number
names_table (Remove key) number = key.table == number
names_table (Flush selector) number = agrees (λ a b. a == b) selector.table number

-- the number of the one table that it may change, if it names one
abbrev pub named_table : RouteEdit → Option ℕ
named_table (Put route) = Some route.table
named_table (Remove key) = Some key.table
named_table (Flush selector) = selector.table

abbrev pub table_after : RouteEdit → TableRows → TableRows
table_after edit table = record { number = table.number; rows = if names_table edit table.number then after_edit edit table.rows else table.rows }

-- those that still have rows
abbrev pub tables_after : RouteEdit → List TableRows → List TableRows
tables_after edit tables = filter has_rows (map (table_after edit) tables)

-- a table of one route
abbrev pub table_of : Route → TableRows
table_of route = record { number = route.table; rows = route ∷ [] }

-- all tables after an edit: a route whose table isn't there gets a new one
abbrev pub tables_with : RouteEdit → List TableRows → List TableRows
tables_with (Put route) tables =
    if has_table route.table tables then tables_after (Put route) tables else insert_by is_lower (table_of route) (tables_after (Put route) tables)
tables_with (Remove key) tables = tables_after (Remove key) tables
tables_with (Flush selector) tables = tables_after (Flush selector) tables
