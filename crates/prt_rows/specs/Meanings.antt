-- What the texts that read and write mean, as commands over terms. `col 0 n` is parameter n + 1; `col 1 n` is the value at place
-- n of a row, whose rowid has place 0.
use Rattle.std.specs.Prelude.{ℕ, pos, negsuc, false, List, [], ◌∷◌, None, Some, codes, map}
use Rattle.sqlite.specs.Collation.TheVariants.{Binary}
use Rattle.sqlite.specs.Command.{Command}
use Rattle.sqlite.specs.Command.TheVariants.{Delete, Insert, InsertOr, Select, Update}
use Rattle.sqlite.specs.Query.{Query, inner, end}
use Rattle.sqlite.specs.Source.TheVariants.{Values}
use Rattle.sqlite.specs.Term.{Term, lit, col, op2}
use Rattle.sqlite.specs.declared.types.Value.{Value}
use Rattle.sqlite.specs.declared.types.Value.TheVariants.{Null, Int, Text}
use Rattle.sqlite_schema.specs.declared.command.Conflict.TheVariants.{Abort}
use Rattle.sqlite_schema.specs.declared.command.Upsert.{Upsert}
use Rattle.sqlite_schema.specs.declared.program.Program.{Program}
use Rattle.sqlite_sql.specs.declared.ops.BinaryOp.TheVariants.{Arith, Bits, Compare, Or}
use Rattle.sqlite_sql.specs.declared.ops.ArithOp.TheVariants.{Add}
use Rattle.sqlite_sql.specs.declared.ops.BitOp.TheVariants.{Shr}
use Rattle.sqlite_sql.specs.declared.ops.CompareOp.{CompareOp}
use Rattle.sqlite_sql.specs.declared.ops.CompareOp.TheVariants.{Eq, Ge, Gt, Le, Ne}
use Rattle.sqlite_value.specs.Keys.{ascending}
use Rattle.prt_addr.specs.Word.{Word}
use Rattle.prt_rows.specs.Columns.{Column}
use Rattle.prt_rows.specs.MetaRow.{meta_columns}
use Rattle.prt_rows.specs.RouteRow.{route_columns}
use Rattle.prt_rows.specs.RuleRow.{rule_columns}
use Rattle.prt_rows.specs.SuppressRow.{suppress_columns}
use Rattle.prt_rows.specs.Tables.{key_places}

-- SELECT shows FROM the tree WHERE tests
abbrev pub over_tree : ℕ → List Term → List Term → Query
over_tree tree tests shows = record {
  from = inner tree end;
  filter = tests;
  group = None;
  project = shows;
  distinct = false;
  collations = [];
  order = [];
  limit = lit (Int (negsuc 0));
  offset = lit (Int (pos 0));
}

abbrev pub program : ℕ → List Term → List Term → Program
program tree tests shows = record { lets = []; body = over_tree tree tests shows }

abbrev pub rowid_term : Term
rowid_term = col 1 0

-- the rows that pass are deleted
abbrev pub deletion : ℕ → ℕ → List Term → Command
deletion place tree tests = Delete place (program tree tests (rowid_term ∷ []))

-- a column of the row equals a parameter
abbrev pub equals : ℕ → ℕ → Term
equals place parameter = op2 (Compare Eq Binary) (col 1 place) (col 0 parameter)

abbrev pub has_key : List Term
has_key = equals 1 0 ∷ equals 2 1 ∷ equals 3 2 ∷ equals 4 3 ∷ []

abbrev pub has_id : List Term
has_id = equals 0 0 ∷ []

abbrev pub has_priority : List Term
has_priority = op2 (Compare Ne Binary) (col 1 2) (lit (Int (pos 0))) ∷ []

-- the parameter compares so with what the term yields of the row
abbrev pub compares : CompareOp → Term → ℕ → Term
compares op term parameter = op2 (Compare op Binary) term (col 0 parameter)

-- the parameter is this mark, or the column of the row equals it
abbrev pub equals_unless : Value → ℕ → ℕ → Term
equals_unless mark place parameter = op2 Or (op2 (Compare Eq Binary) (col 0 parameter) (lit mark)) (equals place parameter)

-- the address after the last one of a route's prefix
abbrev pub end_term : Term
end_term = op2 (Arith Add) (col 1 2) (op2 (Bits Shr) (lit (Int (pos 4294967296))) (col 1 3))

abbrev pub is_flushed : List Term
is_flushed =
    equals_unless (Int (negsuc 0)) 1 0 ∷ compares Ge (col 1 2) 1 ∷ compares Le (col 1 2) 2 ∷ compares Ge (col 1 3) 3
    ∷ compares Le (col 1 3) 4 ∷ compares Gt end_term 5
    ∷ equals_unless (Int (negsuc 0)) 5 6 ∷ equals_unless (Int (negsuc 0)) 9 7 ∷ equals_unless (Int (negsuc 0)) 10 8 ∷ equals_unless (Text []) 7 9 ∷ []

abbrev pub flush_routes_command : Command
flush_routes_command = deletion 1 1 is_flushed

abbrev pub delete_route_command : Command
delete_route_command = deletion 1 1 has_key

abbrev pub delete_rule_command : Command
delete_rule_command = deletion 0 0 has_id

abbrev pub flush_rules_command : Command
flush_rules_command = deletion 0 0 has_priority

-- the parameters as a row, after the rowid
abbrev pub route_terms : List Term
route_terms = lit Null ∷ col 0 0 ∷ col 0 1 ∷ col 0 2 ∷ col 0 3 ∷ col 0 4 ∷ col 0 5 ∷ col 0 6 ∷ col 0 7 ∷ col 0 8 ∷ col 0 9 ∷ []

abbrev pub insert_route_command : Command
insert_route_command = Insert 1 (Values route_terms 11)

-- the parameters as a row whose first is the rowid
abbrev pub rule_terms : List Term
rule_terms = col 0 0 ∷ lit Null ∷ col 0 1 ∷ col 0 2 ∷ col 0 3 ∷ col 0 4 ∷ col 0 5 ∷ col 0 6 ∷ col 0 7 ∷ col 0 8 ∷ col 0 9 ∷ col 0 10 ∷ col 0 11 ∷ []

abbrev pub insert_rule_command : Command
insert_rule_command = Insert 0 (Values rule_terms 13)

abbrev pub suppress_terms : List Term
suppress_terms = col 0 0 ∷ lit Null ∷ col 0 1 ∷ []

abbrev pub insert_suppress_command : Command
insert_suppress_command = Insert 3 (Values suppress_terms 3)

abbrev pub meta_terms : List Term
meta_terms = col 0 0 ∷ lit Null ∷ col 0 1 ∷ col 0 2 ∷ []

abbrev pub insert_meta_command : Command
insert_meta_command = Insert 2 (Values meta_terms 4)

-- the row whose rowid is parameter 11
abbrev pub same_rowid : List Term
same_rowid = equals 0 10 ∷ []

-- its rowid, twice, its key, and the parameters in place of the rest
abbrev pub replaced_terms : List Term
replaced_terms = col 1 0 ∷ col 1 0 ∷ col 1 1 ∷ col 1 2 ∷ col 1 3 ∷ col 1 4 ∷ col 0 4 ∷ col 0 5 ∷ col 0 6 ∷ col 0 7 ∷ col 0 8 ∷ col 0 9 ∷ []

-- if the key is there, all but the key is replaced
abbrev pub on_key : Upsert
on_key = record { target = Some key_places; update = Some (program 1 same_rowid replaced_terms) }

abbrev pub put_route_command : Command
put_route_command = InsertOr 1 Abort (Values route_terms 11) (on_key ∷ [])

abbrev pub set_count_command : Command
set_count_command = Update 2 (program 3 [] (col 1 0 ∷ col 1 0 ∷ lit Null ∷ col 1 2 ∷ col 0 0 ∷ []))

-- the rows of format 1
abbrev pub is_of_format_1 : List Term
is_of_format_1 = op2 (Compare Eq Binary) (col 1 2) (lit (Int (pos 1))) ∷ []

-- its rowid, twice, and the row with format 2
abbrev pub migrated_terms : List Term
migrated_terms = col 1 0 ∷ col 1 0 ∷ lit Null ∷ lit (Int (pos 2)) ∷ col 1 3 ∷ []

abbrev pub migrate_command : Command
migrate_command = Update 2 (program 3 is_of_format_1 migrated_terms)

-- the names of columns
abbrev pub names_of : {X : Type 0} → List (Column X) → List Word
names_of columns = map (λ column. column.0) columns

-- SELECT the rowid, shows FROM the tree ORDER BY its rowid
abbrev pub listing : ℕ → List Term → Program
listing tree shows = record { lets = []; body = record (over_tree tree [] (rowid_term ∷ shows)) { order = (rowid_term, ascending Binary) ∷ [] } }

-- SELECT the rowid, shown by this name, FROM the tree
abbrev pub look_at : ℕ → Word → Command
look_at tree name = Select (program tree [] (rowid_term ∷ [])) (name ∷ [])

-- the columns after the rowid, which is the id of a rule and of the row of `meta`
abbrev pub read_rule_terms : List Term
read_rule_terms = col 1 2 ∷ col 1 3 ∷ col 1 4 ∷ col 1 5 ∷ col 1 6 ∷ col 1 7 ∷ col 1 8 ∷ col 1 9 ∷ col 1 10 ∷ col 1 11 ∷ col 1 12 ∷ []

abbrev pub read_route_terms : List Term
read_route_terms = col 1 1 ∷ col 1 2 ∷ col 1 3 ∷ col 1 4 ∷ col 1 5 ∷ col 1 6 ∷ col 1 7 ∷ col 1 8 ∷ col 1 9 ∷ col 1 10 ∷ []

abbrev pub read_meta_terms : List Term
read_meta_terms = col 1 2 ∷ col 1 3 ∷ []

abbrev pub read_suppress_terms : List Term
read_suppress_terms = col 1 2 ∷ []

abbrev pub read_suppress_command : Command
read_suppress_command = Select (listing 4 read_suppress_terms) (names_of suppress_columns)

abbrev pub read_rules_command : Command
read_rules_command = Select (listing 0 read_rule_terms) (names_of rule_columns)

abbrev pub read_routes_command : Command
read_routes_command = Select (listing 1 read_route_terms) (codes "rowid" ∷ names_of route_columns)

abbrev pub read_meta_command : Command
read_meta_command = Select (listing 3 read_meta_terms) (names_of meta_columns)
