-- A row of a live database has a value for each column of its table.
use Rattle.std.proofs.Common.{cond, ◌≡◌, ◌≤◌, ◌<◌, ◌+◌, ℕ, zero, suc, Bool, true, false, not, ◌||◌, Option, Some, None, List, [], ◌∷◌, length, map, drop, IsPermutation, refl, sym, ap, subst, ◌∙◌, arith, true≢false}
use Rattle.std.proofs.lemmas.Bool.{and_parts, not-true}
use Rattle.std.proofs.lemmas.List.Sorted.{IsPermutation-map}
use Rattle.std.specs.List.{AllByRecursion}
use Rattle.sqlite.specs.Effect.{Database, IsDatabase}
use Rattle.sqlite.specs.Table.{Table}
use Rattle.sqlite.specs.Term.{Term}
use Rattle.sqlite.specs.Tree.{Trees, rowid}
use Rattle.sqlite.specs.declared.types.Value.{Value}
use Rattle.sqlite.specs.declared.types.Value.TheVariants.{Null, Int, Real, Text, Blob}
use Rattle.sqlite_rules.proofs.ProbeLemmas.{map_same}
use Rattle.sqlite_schema.specs.Names.{is_key}
use Rattle.sqlite_schema.specs.Rules.{Obeys, are_present, are_typed, has_computed, passes, suits}
use Rattle.sqlite_schema.specs.declared.schema.Column.{Column}
use Rattle.sqlite_schema.specs.declared.schema.Constraint.TheVariants.{Datatype, NotNull}
use Rattle.sqlite_schema.specs.declared.schema.Index.{Index}
use Rattle.sqlite_schema.specs.declared.schema.Schema.{Schema}
use Rattle.sqlite_schema.specs.declared.schema.View.{View}
use Rattle.sqlite_sql.specs.Ops.{is_null}
use Rattle.sqlite_value.specs.Order.{Row, column}
use Rattle.prt_rows.proofs.Found.{projection}
use Rattle.prt_rows.proofs.Reading.{Lists}
use Rattle.prt_rows.specs.Kept.{with_key_column}
use Rattle.prt_rows.specs.Meanings.{read_meta_terms, read_route_terms, read_rule_terms, read_suppress_terms, rowid_term}
use Rattle.prt_rows.specs.Tables.{meta_table, route_table, rule_table, schema_with, suppress_table}

-- ---- how many values

no_longer : (key : Option ℕ) (at : ℕ) (columns : List Column) (cells : Row) → are_typed key at columns cells ≡ true → length cells ≤ length columns
no_longer key at [] [] typed = omega arith
no_longer key at [] (v ∷ cells) typed = absurd (true≢false (sym typed))
no_longer key at (c ∷ columns) [] typed = omega arith
no_longer key at (c ∷ columns) (v ∷ cells) typed = let rest : length cells ≤ length columns = no_longer key (at + 1) columns cells (and_parts (cond (is_key key at) (is_null v) (suits c v)) (are_typed key (at + 1) columns cells) typed).1 in omega (arith, rest)

-- the last of these columns has a value, or need not have one
abbrev has_last : Option ℕ → ℕ → List Column → Row → Bool
has_last key at [] row = true
has_last key at (c ∷ []) row = is_key key at || not c.not_null || not (is_null (column row (at + 1)))
has_last key at (c ∷ (d ∷ columns)) row = has_last key (at + 1) (d ∷ columns) row

last_is_present : (key : Option ℕ) (at : ℕ) (columns : List Column) (row : Row) → are_present key at columns row ≡ true → has_last key at columns row ≡ true
last_is_present key at [] row present = refl
last_is_present key at (c ∷ []) row present = (and_parts (is_key key at || not c.not_null || not (is_null (column row (at + 1)))) true present).0
last_is_present key at (c ∷ (d ∷ columns)) row present =
    last_is_present key (at + 1) (d ∷ columns) row (and_parts (is_key key at || not c.not_null || not (is_null (column row (at + 1)))) (are_present key (at + 1) (d ∷ columns) row) present).1

is_there : (row : Row) (n : ℕ) → is_null (column row n) ≡ false → n < length row
is_there [] n there = absurd (true≢false there)
is_there (v ∷ row) zero there = omega arith
is_there (v ∷ row) (suc n) there = let rest = is_there row n there in omega (arith, rest)

-- ---- a row is its values

abbrev cells : ℕ → ℕ → Row → Row
cells at zero row = []
cells at (suc n) row = column row at ∷ cells (suc at) n row

later_cells : (v : Value) (row : Row) (at n : ℕ) → cells (suc at) n (v ∷ row) ≡ cells at n row
later_cells v row at zero = refl
later_cells v row at (suc n) = ap (λ rest. column row at ∷ rest) (later_cells v row (suc at) n)

all_cells : (row : Row) (n : ℕ) → length row ≡ n → row ≡ cells 0 n row
all_cells [] zero whole = refl
all_cells [] (suc n) whole = absurd (omega arith)
all_cells (v ∷ row) zero whole = absurd (omega arith)
all_cells (v ∷ row) (suc n) whole = let rest : length row ≡ n = omega arith in ap (λ rest. v ∷ rest) (all_cells row n rest ∙ sym (later_cells v row zero n))

length_after : (row : Row) → 0 < length row → length row ≡ length (drop 1 row) + 1
length_after [] some = absurd (omega arith)
length_after (v ∷ row) some = omega arith

-- no value comes after the last column, which has one
whole_row : (key : Option ℕ) (columns : List Column) (row : Row) → are_typed key 0 columns (drop 1 row) ≡ true → is_null (column row (length columns)) ≡ false → row ≡ cells 0 (length columns + 1) row
whole_row key columns row typed last =
    let most : length (drop 1 row) ≤ length columns = no_longer key 0 columns (drop 1 row) typed in
    let least : length columns < length row = is_there row (length columns) last in
    all_cells row (length columns + 1) (omega (arith, length_after row (omega (arith, least))))

null_is : (v : Value) → is_null v ≡ true → v ≡ Null
null_is Null is = refl
null_is (Int n) is = cc
null_is (Real x) is = cc
null_is (Text t) is = cc
null_is (Blob b) is = cc

-- NULL is in the column that the rowid stands for
key_is_null : (columns : List Column) (x : Row) → are_typed (Some 0) 0 columns (drop 1 x) ≡ true → column x 1 ≡ Null
key_is_null columns [] typed = refl
key_is_null columns (v ∷ []) typed = refl
key_is_null [] (v ∷ (w ∷ row)) typed = absurd (true≢false (sym typed))
key_is_null (c ∷ columns) (v ∷ (w ∷ row)) typed = null_is w (and_parts (is_null w) (are_typed (Some 0) 1 columns row) typed).0

module _ (schema : Schema) (db : Trees) where
  -- the row has the types of the table, and a value in its last column
  parts : (table : Table) (row : Row) → passes Datatype schema db table row ≡ true → passes NotNull schema db table row ≡ true → (are_typed table.key 0 table.columns (drop 1 row) ≡ true) × (has_last table.key 0 table.columns row ≡ true)
  parts table row typed present = ((and_parts (are_typed table.key 0 table.columns (drop 1 row)) (has_computed table row) typed).0, last_is_present table.key 0 table.columns row present)

  route_as_shown : (row : Row) → passes Datatype schema db route_table row ≡ true → passes NotNull schema db route_table row ≡ true → row ≡ projection (rowid_term ∷ read_route_terms) [] row
  route_as_shown row typed present = let it = parts route_table row typed present in whole_row None route_table.columns row it.0 (not-true _ it.1)

  rule_as_shown : (row : Row) → passes Datatype schema db rule_table row ≡ true → passes NotNull schema db rule_table row ≡ true → row ≡ with_key_column (projection (rowid_term ∷ read_rule_terms) [] row)
  rule_as_shown row typed present =
      let it = parts rule_table row typed present in
      whole_row (Some 0) rule_table.columns row it.0 (not-true _ it.1) ∙ ap (λ v. rowid row ∷ v ∷ cells 2 11 row) (key_is_null rule_table.columns row it.0)

  meta_as_shown : (row : Row) → passes Datatype schema db meta_table row ≡ true → passes NotNull schema db meta_table row ≡ true → row ≡ with_key_column (projection (rowid_term ∷ read_meta_terms) [] row)
  meta_as_shown row typed present =
      let it = parts meta_table row typed present in
      whole_row (Some 0) meta_table.columns row it.0 (not-true _ it.1) ∙ ap (λ v. rowid row ∷ v ∷ cells 2 2 row) (key_is_null meta_table.columns row it.0)

  suppress_as_shown : (row : Row) → passes Datatype schema db suppress_table row ≡ true → passes NotNull schema db suppress_table row ≡ true → row ≡ with_key_column (projection (rowid_term ∷ read_suppress_terms) [] row)
  suppress_as_shown row typed present =
      let it = parts suppress_table row typed present in
      whole_row (Some 0) suppress_table.columns row it.0 (not-true _ it.1) ∙ ap (λ v. rowid row ∷ v ∷ cells 2 1 row) (key_is_null suppress_table.columns row it.0)

  -- the rows of a table whose rows are what is kept of what they show
  table_as_shown : (table : Table) (shows : List Term) (keep : Row → Row) (rows : List Row) → ((row : Row) → passes Datatype schema db table row ≡ true → passes NotNull schema db table row ≡ true → row ≡ keep (projection shows [] row))
      → AllByRecursion (λ row. passes Datatype schema db table row ≡ true) rows → AllByRecursion (λ row. passes NotNull schema db table row ≡ true) rows → rows ≡ map keep (map (projection shows []) rows)
  table_as_shown table shows keep [] as_shown typed present = refl
  table_as_shown table shows keep (row ∷ rows) as_shown typed present = λ i. as_shown row typed.0 present.0 i ∷ table_as_shown table shows keep rows as_shown typed.1 present.1 i

-- ---- the rows of the tables are those that are read

module _ (tables : List Table) (indexes : List Index) (views : List View) (db : Database) (has : db.schema ≡ schema_with tables indexes views) (sound : IsDatabase db) (rows : List Row) where
  abbrev schema : Schema
  schema = schema_with tables indexes views

  obeys : Obeys schema db.trees
  obeys = subst (λ (s : Schema). Obeys s db.trees) has sound.obeys

  pub rules_are_read : Lists 0 read_rule_terms (db.trees 0) rows → IsPermutation (db.trees 0) (map with_key_column rows)
  rules_are_read lists =
      let same = table_as_shown schema db.trees rule_table (rowid_term ∷ read_rule_terms) with_key_column (db.trees 0) (rule_as_shown schema db.trees) (obeys.rules Datatype).0 (obeys.rules NotNull).0 in
      subst (λ table. IsPermutation table (map with_key_column rows)) (sym same) (IsPermutation-map with_key_column _ rows lists.same)

  pub routes_are_read : Lists 1 read_route_terms (db.trees 1) rows → IsPermutation (db.trees 1) rows
  routes_are_read lists =
      let same = table_as_shown schema db.trees route_table (rowid_term ∷ read_route_terms) (λ row. row) (db.trees 1) (route_as_shown schema db.trees) (obeys.rules Datatype).1.0 (obeys.rules NotNull).1.0 in
      subst (λ table. IsPermutation table rows) (sym (same ∙ map_same _)) lists.same

  pub meta_is_read : Lists 3 read_meta_terms (db.trees 3) rows → IsPermutation (db.trees 3) (map with_key_column rows)
  meta_is_read lists =
      let same = table_as_shown schema db.trees meta_table (rowid_term ∷ read_meta_terms) with_key_column (db.trees 3) (meta_as_shown schema db.trees) (obeys.rules Datatype).1.1.0 (obeys.rules NotNull).1.1.0 in
      subst (λ table. IsPermutation table (map with_key_column rows)) (sym same) (IsPermutation-map with_key_column _ rows lists.same)

  pub suppress_is_read : Lists 4 read_suppress_terms (db.trees 4) rows → IsPermutation (db.trees 4) (map with_key_column rows)
  suppress_is_read lists =
      let same = table_as_shown schema db.trees suppress_table (rowid_term ∷ read_suppress_terms) with_key_column (db.trees 4) (suppress_as_shown schema db.trees) (obeys.rules Datatype).1.1.1.0 (obeys.rules NotNull).1.1.1.0 in
      subst (λ table. IsPermutation table (map with_key_column rows)) (sym same) (IsPermutation-map with_key_column _ rows lists.same)
