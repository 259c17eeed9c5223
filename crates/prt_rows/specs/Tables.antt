-- The four tables, as the store makes them in an empty file.
use Rattle.std.specs.Prelude.{ℕ, true, false, List, [], ◌∷◌, Some, None, codes, map}
use Rattle.sqlite.specs.Kind.{Kind}
use Rattle.sqlite.specs.Collation.TheVariants.{Binary}
use Rattle.sqlite.specs.Schema.{Schema}
use Rattle.sqlite.specs.Table.{Table}
use Rattle.sqlite_schema.specs.declared.schema.Action.TheVariants.{Cascade, NoAction}
use Rattle.sqlite_schema.specs.declared.schema.Column.{Column as Declared}
use Rattle.sqlite_schema.specs.declared.schema.Index.{Index}
use Rattle.sqlite_schema.specs.declared.schema.Reference.{Reference}
use Rattle.sqlite_schema.specs.declared.schema.View.{View}
use Rattle.sqlite_value.specs.declared.value.Value.TheVariants.{Null}
use Rattle.prt_addr.specs.Word.{Word}
use Rattle.prt_rows.specs.Columns.{Column}
use Rattle.prt_rows.specs.MetaRow.{meta_columns}
use Rattle.prt_rows.specs.RouteRow.{route_columns}
use Rattle.prt_rows.specs.RuleRow.{rule_columns}
use Rattle.prt_rows.specs.SuppressRow.{suppress_columns}

-- a column of a STRICT table that takes no NULL
abbrev pub strict_column : Word → Kind → Declared
strict_column name kind = record { name = name; kind = kind; is_strict = true; not_null = true; default = Null; collation = Binary }

abbrev pub declaration : {X : Type 0} → Column X → Declared
declaration column = strict_column column.0 column.1

-- a table whose primary key is its first column, and of which nothing else is said
abbrev pub plain_table : Word → ℕ → List Declared → Table
plain_table name tree columns = record {
  name = name;
  tree = tree;
  columns = columns;
  key = Some 0;
  primary = 0 ∷ [];
  uniques = [];
  orders = [];
  checks = [];
  references = [];
  computed = [];
  stamps = record { places = []; terms = []; formats = [] };
  is_counted = false;
}

-- a table whose primary key is its column `id`
abbrev pub table_by_id : {X : Type 0} → Word → ℕ → List (Column X) → Table
table_by_id name tree columns = plain_table name tree (map declaration columns)

abbrev pub rule_table : Table
rule_table = table_by_id (codes "rule") 0 rule_columns

abbrev pub meta_table : Table
meta_table = table_by_id (codes "meta") 3 meta_columns

-- the places of table, address, length and metric in a row, whose rowid has place 0
abbrev pub key_places : List ℕ
key_places = 1 ∷ 2 ∷ 3 ∷ 4 ∷ []

abbrev pub route_table : Table
route_table = record (table_by_id (codes "route") 1 route_columns) {
  key = None;
  primary = key_places;
  uniques = key_places ∷ [];
  orders =
      (record { digits = 0 }) ∷ [];
}

abbrev pub route_key : Index
route_key = record { name = codes "sqlite_autoindex_route_1"; tree = 2; table = 1; columns = key_places; order = record { digits = 0 }; is_unique = true }

-- `suppress` refers to the ids of rules, and its rows go with the rules that they refer to
abbrev pub to_rule : Reference
to_rule = record { columns = 0 ∷ []; parent = codes "rule"; parent_columns = codes "id" ∷ []; on_delete = Cascade; on_update = NoAction; is_deferred = false }

abbrev pub suppress_table : Table
suppress_table = record (table_by_id (codes "suppress") 4 suppress_columns) { references = to_rule ∷ [] }

-- the four tables, and others that were made later
abbrev pub schema_with : List Table → List Index → List View → Schema
schema_with tables indexes views =
    record { tables = rule_table ∷ route_table ∷ meta_table ∷ suppress_table ∷ tables; indexes = route_key ∷ indexes; views = views }

-- the four tables
abbrev pub our_tables : List Table
our_tables = rule_table ∷ route_table ∷ meta_table ∷ suppress_table ∷ []

-- what is in a file after none, one, two and three of the four tables were made; three are those of format 1
abbrev pub no_tables : Schema
no_tables = record { tables = []; indexes = []; views = [] }

abbrev pub rule_alone : Schema
rule_alone = record { tables = rule_table ∷ []; indexes = []; views = [] }

abbrev pub rule_and_route : Schema
rule_and_route = record { tables = rule_table ∷ route_table ∷ []; indexes = route_key ∷ []; views = [] }

abbrev pub format_1_alone : Schema
format_1_alone = record { tables = rule_table ∷ route_table ∷ meta_table ∷ []; indexes = route_key ∷ []; views = [] }
