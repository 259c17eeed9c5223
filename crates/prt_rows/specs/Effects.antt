-- What the statements do to the rows.
use Rattle.std.specs.Prelude.{◌≡◌, ◌≢◌, ◌⊎◌, ℕ, Bool, true, false, List, [], ◌∷◌, drop}
use Rattle.std.specs.List.{IsDistinct, list_all}
use Rattle.std.specs.Ordering.{is_eq}
use Rattle.sqlite.specs.Change.{KeepsRows}
use Rattle.sqlite.specs.Effect.{Database, IsDatabase}
use Rattle.sqlite.specs.Schema.{Schema}
use Rattle.sqlite.specs.Table.{Table}
use Rattle.sqlite.specs.Term.{Term, holds}
use Rattle.sqlite.specs.Tree.{rowid}
use Rattle.sqlite.specs.View.{is_int}
use Rattle.sqlite_rules.specs.Lists.{Has}
use Rattle.sqlite_value.specs.Order.{Row, value_cmp}
use Rattle.prt_route.specs.Route.{key_of}
use Rattle.prt_route.specs.declared.route.Route.{Route}
use Rattle.prt_rows.specs.Kept.{kept_count, kept_count_1, key_values}
use Rattle.prt_rows.specs.Meanings.{has_key}
use Rattle.prt_rows.specs.MetaRow.{IsCount}
use Rattle.prt_rows.specs.RouteRow.{route_row}
use Rattle.prt_rows.specs.Tables.{meta_table, our_tables, route_table, rule_table, suppress_table}

abbrev pub has_same_rowid : Row → Row → Bool
has_same_rowid a b = is_eq (value_cmp (rowid a) (rowid b))

-- each rowid is an integer, and occurs once
pub record IsKeyed (rows : List Row) : Type 0 where
  pub ints : (row : Row) → Has rows row → is_int (rowid row) ≡ true
  pub once : IsDistinct has_same_rowid rows

-- the row passes each test
abbrev pub passes : List Term → Row → Row → Bool
passes tests params row = list_all (holds (params ∷ row ∷ [])) tests

-- all but this table stay as they were
pub record ChangesOnly (table : Table) (old new : Database) : Type 0 where
  pub schema : new.schema ≡ old.schema
  pub others : (other : Table) → Has old.schema.tables other → other.tree ≢ table.tree → new.trees other.tree ≡ old.trees other.tree

-- exactly the rows that pass are gone
pub record Deletes (table : Table) (tests : List Term) (params : Row) (old new : Database) : Type 0 where
  pub only : ChangesOnly table old new
  pub sound : (row : Row) → Has (new.trees table.tree) row → Has (old.trees table.tree) row × (passes tests params row ≡ false)
  pub complete : (row : Row) → Has (old.trees table.tree) row → passes tests params row ≡ false → Has (new.trees table.tree) row
  pub keyed : IsKeyed (new.trees table.tree)

-- all but these two tables stay as they were
pub record ChangesTwo (one two : Table) (old new : Database) : Type 0 where
  pub schema : new.schema ≡ old.schema
  pub others : (other : Table) → Has old.schema.tables other → other.tree ≢ one.tree → other.tree ≢ two.tree → new.trees other.tree ≡ old.trees other.tree

-- no rule that passes has this length
abbrev pub IsOfNone : List Term → Row → List Row → Row → Type 0
IsOfNone tests params rules length = (rule : Row) → Has rules rule → has_same_rowid length rule ≡ true → passes tests params rule ≡ false

-- exactly the rules that pass are gone, and exactly their lengths
pub record DeletesRules (tests : List Term) (params : Row) (old new : Database) : Type 0 where
  pub only : ChangesTwo rule_table suppress_table old new
  pub sound : (row : Row) → Has (new.trees rule_table.tree) row → Has (old.trees rule_table.tree) row × (passes tests params row ≡ false)
  pub complete : (row : Row) → Has (old.trees rule_table.tree) row → passes tests params row ≡ false → Has (new.trees rule_table.tree) row
  pub keyed : IsKeyed (new.trees rule_table.tree)
  pub lengths_sound : (row : Row) → Has (new.trees suppress_table.tree) row →
      Has (old.trees suppress_table.tree) row × IsOfNone tests params (old.trees rule_table.tree) row
  pub lengths_complete : (row : Row) → Has (old.trees suppress_table.tree) row → IsOfNone tests params (old.trees rule_table.tree) row →
      Has (new.trees suppress_table.tree) row
  pub lengths_keyed : IsKeyed (new.trees suppress_table.tree)

-- this row is there beside the others
pub record Adds (table : Table) (row : Row) (old new : Database) : Type 0 where
  pub only : ChangesOnly table old new
  pub sound : (x : Row) → Has (new.trees table.tree) x → (x ≡ row) ⊎ Has (old.trees table.tree) x
  pub here : Has (new.trees table.tree) row
  pub complete : (x : Row) → Has (old.trees table.tree) x → Has (new.trees table.tree) x
  pub keyed : IsKeyed (old.trees table.tree) → IsKeyed (new.trees table.tree)

-- this row is the only one
pub record Sets (table : Table) (row : Row) (old new : Database) : Type 0 where
  pub only : ChangesOnly table old new
  pub alone : new.trees table.tree ≡ row ∷ []

-- The file has a table `meta` with the row of format 1 and this count, and no lengths.
pub record IsOfFormat1 (db : Database) (count : ℕ) : Type 0 where
  pub there : Has db.schema.tables meta_table
  pub fits : IsCount count
  pub row : db.trees meta_table.tree ≡ kept_count_1 count ∷ []
  pub none : Has db.schema.tables suppress_table → db.trees suppress_table.tree ≡ []

-- If the file was of format 1, its row of `meta` is now that of format 2, with the count that it had. Otherwise nothing has
-- changed.
abbrev pub Migrates : Database → Database → Type 0
Migrates old new = (((count : ℕ) → IsOfFormat1 old count → ⊥) × (new ≡ old))
    ⊎ ((count : ℕ) × IsOfFormat1 old count × Sets meta_table (kept_count count) old new)

-- a table was made: the schema is this one, its tree is empty, and each table that was there keeps its rows
pub record Makes (after : Schema) (tree : ℕ) (old new : Database) : Type 0 where
  pub sound : IsDatabase new
  pub schema : new.schema ≡ after
  pub empty : new.trees tree ≡ []
  pub kept : KeepsRows old.schema.tables old.trees new.trees

-- each table that was there is there with its rows; of ours some may have been made, which have none
pub record KeepsTables (old new : Database) : Type 0 where
  pub kept : (table : Table) → Has old.schema.tables table → Has new.schema.tables table × (new.trees table.tree ≡ old.trees table.tree)
  pub made : (table : Table) → Has new.schema.tables table → Has old.schema.tables table ⊎ (Has our_tables table × (new.trees table.tree ≡ []))

-- the four tables, as far as they are there, have no rows
abbrev pub AreEmpty : Database → Type 0
AreEmpty db = (table : Table) → Has our_tables table → Has db.schema.tables table → db.trees table.tree ≡ []

-- the same rows, in any order
pub record HasSame (rows others : List Row) : Type 0 where
  pub sound : (row : Row) → Has rows row → Has others row
  pub complete : (row : Row) → Has others row → Has rows row

-- each row is a route's
abbrev pub AreRouteRows : List Row → Type 0
AreRouteRows rows = (x : Row) → Has rows x → (route : Route) × (drop 1 x ≡ route_row route)

-- whether the row has the route's key
abbrev pub has_key_of : Route → Row → Bool
has_key_of route x = passes has_key (key_values (key_of route)) x

-- the route's row is there beside the others, none of which has its key
pub record PutsBeside (route : Route) (old new : Database) : Type 0 where
  pub only : ChangesOnly route_table old new
  pub sound : (x : Row) → Has (new.trees 1) x → (drop 1 x ≡ route_row route) ⊎ Has (old.trees 1) x
  pub here : (x : Row) × Has (new.trees 1) x × (drop 1 x ≡ route_row route)
  pub complete : (x : Row) → Has (old.trees 1) x → Has (new.trees 1) x
  pub apart : (x : Row) → Has (old.trees 1) x → has_key_of route x ≡ false
  pub keyed : IsKeyed (new.trees 1)

-- the route's row is there, in the place of the one that had its key
pub record Puts (route : Route) (old new : Database) : Type 0 where
  pub only : ChangesOnly route_table old new
  pub sound : (x : Row) → Has (new.trees 1) x → (drop 1 x ≡ route_row route) ⊎ (Has (old.trees 1) x × (has_key_of route x ≡ false))
  pub here : (x : Row) × Has (new.trees 1) x × (drop 1 x ≡ route_row route)
  pub complete : (x : Row) → Has (old.trees 1) x → has_key_of route x ≡ false → Has (new.trees 1) x
  pub keyed : IsKeyed (new.trees 1)
