-- Tables of the file that are not ours.
use Rattle.std.specs.Prelude.{◌≡◌, false, List, ◌==◌, codes}
use Rattle.sqlite.specs.Table.{Table}
use Rattle.sqlite_rules.specs.Lists.{Has}
use Rattle.sqlite_schema.specs.Names.{same_name}
use Rattle.sqlite_schema.specs.Rules.{guards}
use Rattle.sqlite_schema.specs.declared.schema.Index.{Index}
use Rattle.sqlite_schema.specs.declared.schema.Reference.{Reference}
use Rattle.prt_rows.specs.Tables.{route_table}

-- the reference names none of our tables
pub record IsElsewhere (reference : Reference) : Type 0 where
  pub rule : same_name (codes "rule") reference.parent ≡ false
  pub route : same_name (codes "route") reference.parent ≡ false
  pub meta : same_name (codes "meta") reference.parent ≡ false
  pub suppress : same_name (codes "suppress") reference.parent ≡ false

-- the table keeps its rows apart from ours, and refers to none of our tables
pub record IsOther (table : Table) : Type 0 where
  pub rule : (table.tree == 0) ≡ false
  pub route : (table.tree == 1) ≡ false
  pub meta : (table.tree == 3) ≡ false
  pub suppress : (table.tree == 4) ≡ false
  pub elsewhere : (reference : Reference) → Has table.references reference → IsElsewhere reference

-- these tables keep their rows apart from ours, and refer to none of our tables
pub record AreOthers (tables : List Table) : Type 0 where
  pub rule : (table : Table) → Has tables table → (table.tree == 0) ≡ false
  pub route : (table : Table) → Has tables table → (table.tree == 1) ≡ false
  pub meta : (table : Table) → Has tables table → (table.tree == 3) ≡ false
  pub suppress : (table : Table) → Has tables table → (table.tree == 4) ≡ false
  pub elsewhere : (table : Table) → Has tables table → (reference : Reference) → Has table.references reference → IsElsewhere reference

-- none of these indexes is a unique one of the table of routes
abbrev pub AreNotOfRoutes : List Index → Type 0
AreNotOfRoutes indexes = (index : Index) → Has indexes index → guards index route_table ≡ false
