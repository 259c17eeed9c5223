-- Files of format 2, and what an opening finds on the way to it.
use Rattle.std.specs.Prelude.{◌≡◌, ◌⊎◌, Bool, true, List, codes}
use Rattle.std.specs.List.{list_any}
use Rattle.sqlite.specs.Schema.{Schema}
use Rattle.sqlite.specs.Table.{Table}
use Rattle.sqlite_rules.specs.Lists.{Has}
use Rattle.sqlite_schema.specs.Names.{same_name}
use Rattle.sqlite_schema.specs.declared.schema.Index.{Index}
use Rattle.sqlite_schema.specs.declared.schema.View.{View}
use Rattle.prt_addr.specs.Word.{Word}
use Rattle.prt_rows.specs.Others.{AreNotOfRoutes, AreOthers}
use Rattle.prt_rows.specs.Tables.{format_1_alone, meta_table, no_tables, route_table, rule_alone, rule_and_route, rule_table, schema_with, suppress_table}

-- the first tables of the file are ours, and no other table or unique index is about them
pub record IsFormat2 (schema : Schema) : Type 0 where
  pub tables : List Table
  pub indexes : List Index
  pub views : List View
  pub is : schema ≡ schema_with tables indexes views
  pub others : AreOthers tables
  pub free : AreNotOfRoutes indexes

-- the tables are those of format 1 alone, or all four with others after them
abbrev pub BeginsWithMeta : Schema → Type 0
BeginsWithMeta schema = (schema ≡ format_1_alone) ⊎ IsFormat2 schema

-- the tables are the first two, or more of them
abbrev pub BeginsWithRoutes : Schema → Type 0
BeginsWithRoutes schema = (schema ≡ rule_and_route) ⊎ BeginsWithMeta schema

-- the table of rules is the first
abbrev pub BeginsWithRules : Schema → Type 0
BeginsWithRules schema = (schema ≡ rule_alone) ⊎ BeginsWithRoutes schema

-- The tables of the file are none, or those that an opening of an empty file had made when it was stopped, or those of format 1
-- alone, or all four with others after them.
abbrev pub BeginsFormat2 : Schema → Type 0
BeginsFormat2 schema = (schema ≡ no_tables) ⊎ BeginsWithRules schema

-- the file has a table of this name
abbrev pub has_table : Word → Schema → Bool
has_table name schema = list_any (λ table. same_name table.name name) schema.tables

-- a table that has the name of one of ours is that one, in whatever tree
pub record SuitsName (table : Table) : Type 0 where
  pub rule : same_name (codes "rule") table.name ≡ true → table ≡ record rule_table { tree = table.tree }
  pub route : same_name (codes "route") table.name ≡ true → table ≡ record route_table { tree = table.tree }
  pub meta : same_name (codes "meta") table.name ≡ true → table ≡ record meta_table { tree = table.tree }
  pub suppress : same_name (codes "suppress") table.name ≡ true → table ≡ record suppress_table { tree = table.tree }

-- each table that has the name of one of ours is that one
abbrev pub SuitsFormat2 : Schema → Type 0
SuitsFormat2 schema = (table : Table) → Has schema.tables table → SuitsName table

-- the four tables are there, in whatever trees and order
pub record HasFormat2 (schema : Schema) : Type 0 where
  pub rule : has_table (codes "rule") schema ≡ true
  pub route : has_table (codes "route") schema ≡ true
  pub meta : has_table (codes "meta") schema ≡ true
  pub suppress : has_table (codes "suppress") schema ≡ true
  pub suit : (table : Table) → Has schema.tables table → SuitsName table
