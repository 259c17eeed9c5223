-- The texts mean their commands, in a file whose first tables are ours.
use Rattle.std.proofs.Common.{◌≡◌, [], List, None, Ok, Err, Result, refl}
use Rattle.std.specs.Prelude.{codes, false, if◌then◌else◌}
use Rattle.sqlite.proofs.Callers.{IsPlain, command_of}
use Rattle.sqlite.specs.Command.{Command}
use Rattle.sqlite.specs.Compile.{table_defined_by}
use Rattle.sqlite.specs.Listing.{if_select, listing_schema, misses_table, reads_listing, understood}
use Rattle.sqlite.specs.Schema.{Schema}
use Rattle.sqlite.specs.Table.{Table}
use Rattle.sqlite_resolve.specs.Compile.{compiled}
use Rattle.sqlite_resolve.specs.declared.compiled.Compiled.{Compiled}
use Rattle.sqlite_resolve.specs.declared.error.CompileError.{CompileError}
use Rattle.sqlite_schema.specs.declared.schema.Index.{Index}
use Rattle.sqlite_schema.specs.declared.schema.View.{View}
use Rattle.sqlite_tied.specs.Compute.{everything}
use Rattle.prt_addr.specs.Word.{Word}
use Rattle.prt_rows.specs.Meanings.{flush_routes_command, insert_meta_command, insert_route_command, delete_route_command, delete_rule_command, flush_rules_command, insert_rule_command, insert_suppress_command, look_at, migrate_command, put_route_command, read_meta_command, read_routes_command, read_rules_command, read_suppress_command, set_count_command}
use Rattle.prt_rows.specs.Statements.{flush_routes, insert_meta, insert_route, create_meta, create_route, create_rule, create_suppress, delete_route, delete_rule, flush_rules, insert_rule, insert_suppress, look_at_meta, look_at_routes, look_at_rules, look_at_suppress, migrate, put_route, read_meta, read_routes, read_rules, read_suppress, set_count}
use Rattle.prt_rows.specs.Tables.{meta_table, route_table, rule_table, schema_with, suppress_table}

-- the text is understood as the command, without more
abbrev pub Means : Schema → Word → Command → Type 0
Means schema text command = (command_of (understood schema text) ≡ command) × IsPlain (understood schema text)

-- the text is a query that is understood so, and reads tables of the file alone
abbrev pub Asks : Schema → Word → Command → Type 0
Asks schema text command = (command_of (understood schema text) ≡ command) × IsPlain (understood schema text) × (reads_listing schema text ≡ false)

-- what a text is compiled to is the command, without more
abbrev pub IsCommand : Result Compiled CompileError → Command → Type 0
IsCommand (Ok c) command = (c.command ≡ command) × ((c.returning ≡ None) × (c.formats ≡ []))
IsCommand (Err e) command = ⊥

found : (listed r : Result Compiled CompileError) (command : Command) → IsCommand r command → (command_of (if misses_table r then listed else r) ≡ command) × IsPlain (if misses_table r then listed else r) × (misses_table r ≡ false)
found listed (Ok c) command is = (is.0, is.1, refl)
found listed (Err e) command is = absurd is

-- so a text is compiled once to determine all that is said of it
asks : (schema : Schema) (text : Word) (command : Command) → IsCommand (compiled schema text) command → Asks schema text command
unfolding understood
asks schema text command is = found (if_select (compiled listing_schema text)) (compiled schema text) command is

pub means : (schema : Schema) (text : Word) (command : Command) → IsCommand (compiled schema text) command → Means schema text command
means schema text command is = let all = asks schema text command is in (all.0, all.1)

pub rule_is : table_defined_by create_rule ≡ Ok rule_table
unfolding everything
rule_is = refl

pub route_is : table_defined_by create_route ≡ Ok (record route_table { tree = 0 })
unfolding everything
route_is = refl

pub meta_is : table_defined_by create_meta ≡ Ok (record meta_table { tree = 0 })
unfolding everything
meta_is = refl

pub suppress_is : table_defined_by create_suppress ≡ Ok (record suppress_table { tree = 0 })
unfolding everything
suppress_is = refl

module _ (tables : List Table) (indexes : List Index) (views : List View) where
  abbrev schema : Schema
  schema = schema_with tables indexes views

  pub read_rules_is : Asks schema read_rules read_rules_command
  unfolding everything
  read_rules_is = asks schema read_rules read_rules_command (refl, (refl, refl))

  pub read_routes_is : Asks schema read_routes read_routes_command
  unfolding everything
  read_routes_is = asks schema read_routes read_routes_command (refl, (refl, refl))

  pub read_meta_is : Asks schema read_meta read_meta_command
  unfolding everything
  read_meta_is = asks schema read_meta read_meta_command (refl, (refl, refl))

  pub look_at_rules_is : Asks schema look_at_rules (look_at 0 (codes "id"))
  unfolding everything
  look_at_rules_is = asks schema look_at_rules (look_at 0 (codes "id")) (refl, (refl, refl))

  pub look_at_routes_is : Asks schema look_at_routes (look_at 1 (codes "rowid"))
  unfolding everything
  look_at_routes_is = asks schema look_at_routes (look_at 1 (codes "rowid")) (refl, (refl, refl))

  pub look_at_meta_is : Asks schema look_at_meta (look_at 3 (codes "id"))
  unfolding everything
  look_at_meta_is = asks schema look_at_meta (look_at 3 (codes "id")) (refl, (refl, refl))

  pub look_at_suppress_is : Asks schema look_at_suppress (look_at 4 (codes "rule"))
  unfolding everything
  look_at_suppress_is = asks schema look_at_suppress (look_at 4 (codes "rule")) (refl, (refl, refl))

  pub migrate_is : Means schema migrate migrate_command
  unfolding everything
  migrate_is = means schema migrate migrate_command (refl, (refl, refl))

  pub insert_route_is : Means schema insert_route insert_route_command
  unfolding everything
  insert_route_is = means schema insert_route insert_route_command (refl, (refl, refl))

  pub put_route_is : Means schema put_route put_route_command
  unfolding everything
  put_route_is = means schema put_route put_route_command (refl, (refl, refl))

  pub delete_route_is : Means schema delete_route delete_route_command
  unfolding everything
  delete_route_is = means schema delete_route delete_route_command (refl, (refl, refl))

  pub flush_routes_is : Means schema flush_routes flush_routes_command
  unfolding everything
  flush_routes_is = means schema flush_routes flush_routes_command (refl, (refl, refl))

  pub insert_meta_is : Means schema insert_meta insert_meta_command
  unfolding everything
  insert_meta_is = means schema insert_meta insert_meta_command (refl, (refl, refl))

  pub read_suppress_is : Asks schema read_suppress read_suppress_command
  unfolding everything
  read_suppress_is = asks schema read_suppress read_suppress_command (refl, (refl, refl))

  pub insert_suppress_is : Means schema insert_suppress insert_suppress_command
  unfolding everything
  insert_suppress_is = means schema insert_suppress insert_suppress_command (refl, (refl, refl))

  pub insert_rule_is : Means schema insert_rule insert_rule_command
  unfolding everything
  insert_rule_is = means schema insert_rule insert_rule_command (refl, (refl, refl))

  pub delete_rule_is : Means schema delete_rule delete_rule_command
  unfolding everything
  delete_rule_is = means schema delete_rule delete_rule_command (refl, (refl, refl))

  pub flush_rules_is : Means schema flush_rules flush_rules_command
  unfolding everything
  flush_rules_is = means schema flush_rules flush_rules_command (refl, (refl, refl))

  pub set_count_is : Means schema set_count set_count_command
  unfolding everything
  set_count_is = means schema set_count set_count_command (refl, (refl, refl))
