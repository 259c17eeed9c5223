-- What the statements that make the tables do.
use Rattle.std.proofs.Common.{◌≡◌, ℕ, [], false, Ok, Err, Result, refl, sym, ap, subst, ◌∙◌}
use Rattle.std.specs.Prelude.{if◌then◌else◌}
use Rattle.sqlite.proofs.Callers.{runs_as, statement_of}
use Rattle.sqlite.specs.Change.{KeepsRows, created, next_tree}
use Rattle.sqlite.specs.Command.TheVariants.{CreateTable}
use Rattle.sqlite.specs.Compile.{table_defined_by}
use Rattle.sqlite.specs.Does.{MakesTable, Tally, lacks_sequence}
use Rattle.sqlite.specs.Effect.{Database}
use Rattle.sqlite.specs.Listing.{if_select, listing_schema, misses_table, understood}
use Rattle.sqlite.specs.Schema.{Schema}
use Rattle.sqlite.specs.State.{Executes, State, text_of}
use Rattle.sqlite.specs.Table.{Table}
use Rattle.sqlite_resolve.specs.Compile.{compiled}
use Rattle.sqlite_resolve.specs.declared.compiled.Compiled.{Compiled}
use Rattle.sqlite_resolve.specs.declared.error.CompileError.{CompileError}
use Rattle.sqlite_tied.specs.Compute.{everything}
use Rattle.prt_addr.specs.Word.{Word}
use Rattle.prt_rows.proofs.Texts.{IsCommand, Means, means, meta_is, route_is, rule_is, suppress_is}
use Rattle.prt_rows.proofs.Writing.{same_value, went}
use Rattle.prt_rows.specs.Effects.{Makes}
use Rattle.prt_rows.specs.Statements.{create_meta, create_route, create_rule, create_suppress}
use Rattle.prt_rows.specs.Tables.{format_1_alone, meta_table, no_tables, route_table, rule_and_route, rule_alone, rule_table, schema_with, suppress_table}

-- a text that makes a table under this schema
module _ (sql : Word) (from : Schema) (defined : Table) (means : Means from sql CreateTable) (text : statement_of sql (understood from sql) ≡ sql) (is : table_defined_by sql ≡ Ok defined) (after : Schema)
    (becomes : created from defined ≡ after) (tree : ℕ) (place : next_tree from ≡ tree) (counts : lacks_sequence after ≡ false) where
  makes : (old new : State) (count : ℕ) → old.now.schema ≡ from → Executes sql [] old new (Ok count) → Makes after tree old.now new.now
  makes old new count has ran =
      let ran_as = runs_as sql [] old new from has CreateTable means.0 means.1 count ran in
      let all = went ran_as.changed in
      let first = went all.1 in
      let made = subst (λ t. MakesTable t old.now (Ok first.0)) text first.1 in
      let same : made.table ≡ defined = same_value (sym made.defined ∙ is) in
      let schema : first.0.schema ≡ after = made.is ∙ ap (λ s. created s made.table) has ∙ ap (created from) same ∙ becomes in
      let now : new.now ≡ first.0 = ap (λ (p : Tally × Database). p.1) (same_value all.2) ∙ same_value (rw (ap lacks_sequence schema ∙ counts) at first.2) in
      record {
        sound = ran_as.sound;
        schema = ap (λ (d : Database). d.schema) now ∙ schema;
        empty = ap (λ (d : Database). d.trees tree) now ∙ subst (λ n. first.0.trees n ≡ []) place (subst (λ s. first.0.trees (next_tree s) ≡ []) has made.empty);
        kept = subst (λ (d : Database). KeepsRows old.now.schema.tables old.now.trees d.trees) (sym now) made.others;
      }

-- what the text is compiled to makes a table, and is the whole text
abbrev IsMaking : Word → Result Compiled CompileError → Type 0
IsMaking text (Ok c) = IsCommand (Ok c) CreateTable × (text_of text c ≡ text)
IsMaking text (Err e) = ⊥

plainly : (text : Word) (r : Result Compiled CompileError) → IsMaking text r → IsCommand r CreateTable
plainly text (Ok c) is = is.0
plainly text (Err e) is = absurd is

whole : (text : Word) (listed r : Result Compiled CompileError) → IsMaking text r → statement_of text (if misses_table r then listed else r) ≡ text
whole text listed (Ok c) is = is.1
whole text listed (Err e) is = absurd is

made : (from : Schema) (text : Word) → IsMaking text (compiled from text) → Means from text CreateTable × (statement_of text (understood from text) ≡ text)
unfolding understood
made from text is = (means from text CreateTable (plainly text (compiled from text) is), whole text (if_select (compiled listing_schema text)) (compiled from text) is)

rule_made : Means no_tables create_rule CreateTable × (statement_of create_rule (understood no_tables create_rule) ≡ create_rule)
unfolding everything
rule_made = made no_tables create_rule ((refl, (refl, refl)), refl)

route_made : Means rule_alone create_route CreateTable × (statement_of create_route (understood rule_alone create_route) ≡ create_route)
unfolding everything
route_made = made rule_alone create_route ((refl, (refl, refl)), refl)

meta_made : Means rule_and_route create_meta CreateTable × (statement_of create_meta (understood rule_and_route create_meta) ≡ create_meta)
unfolding everything
meta_made = made rule_and_route create_meta ((refl, (refl, refl)), refl)

suppress_made : Means format_1_alone create_suppress CreateTable × (statement_of create_suppress (understood format_1_alone create_suppress) ≡ create_suppress)
unfolding everything
suppress_made = made format_1_alone create_suppress ((refl, (refl, refl)), refl)

-- its index is named after it
route_becomes : created rule_alone (record route_table { tree = 0 }) ≡ rule_and_route
unfolding everything
route_becomes = refl

module _ (old new : State) (count : ℕ) where
  pub makes_rule : old.now.schema ≡ no_tables → Executes create_rule [] old new (Ok count) → Makes rule_alone 0 old.now new.now
  makes_rule = makes create_rule no_tables rule_table rule_made.0 rule_made.1 rule_is rule_alone refl 0 refl refl old new count

  pub makes_route : old.now.schema ≡ rule_alone → Executes create_route [] old new (Ok count) → Makes rule_and_route 1 old.now new.now
  makes_route = makes create_route rule_alone (record route_table { tree = 0 }) route_made.0 route_made.1 route_is rule_and_route route_becomes 1 refl refl old new count

  pub makes_meta : old.now.schema ≡ rule_and_route → Executes create_meta [] old new (Ok count) → Makes format_1_alone 3 old.now new.now
  makes_meta = makes create_meta rule_and_route (record meta_table { tree = 0 }) meta_made.0 meta_made.1 meta_is format_1_alone refl 3 refl refl old new count

  pub makes_suppress : old.now.schema ≡ format_1_alone → Executes create_suppress [] old new (Ok count) → Makes (schema_with [] [] []) 4 old.now new.now
  makes_suppress = makes create_suppress format_1_alone (record suppress_table { tree = 0 }) suppress_made.0 suppress_made.1 suppress_is (schema_with [] [] []) refl 4 refl refl old new count
