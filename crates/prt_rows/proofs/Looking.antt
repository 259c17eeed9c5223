-- What the statements report that look whether a table has rows.
use Rattle.std.proofs.Common.{◌≡◌, inl, ℕ, List, [], ◌∷◌, refl, subst}
use Rattle.std.specs.Prelude.{codes}
use Rattle.sqlite.proofs.Callers.{reads_as}
use Rattle.sqlite.specs.Program.{overlay}
use Rattle.sqlite.specs.Schema.{Schema}
use Rattle.sqlite.specs.State.{Shown, State}
use Rattle.sqlite.specs.Table.{Table}
use Rattle.sqlite_rules.specs.Lists.{Has}
use Rattle.sqlite_schema.specs.declared.schema.Index.{Index}
use Rattle.sqlite_schema.specs.declared.schema.View.{View}
use Rattle.sqlite_value.specs.Order.{Row}
use Rattle.prt_addr.specs.Word.{Word}
use Rattle.prt_rows.proofs.Found.{Finds, finds_passing, projection}
use Rattle.prt_rows.proofs.Texts.{Asks, look_at_meta_is, look_at_routes_is, look_at_rules_is, look_at_suppress_is}
use Rattle.prt_rows.specs.Meanings.{look_at, rowid_term}
use Rattle.prt_rows.specs.Statements.{look_at_meta, look_at_routes, look_at_rules, look_at_suppress}
use Rattle.prt_rows.specs.Tables.{schema_with}

-- what is found determines whether there is a row
pub record Looks (rows found : List Row) : Type 0 where
  pub none : found ≡ [] → rows ≡ []
  pub some : rows ≡ [] → found ≡ []

pub no_members : (rows : List Row) → ((row : Row) → Has rows row → ⊥) → rows ≡ []
no_members [] none = refl
no_members (row ∷ rows) none = absurd (none row (inl refl))

looks : (rows found : List Row) → Finds [] (rowid_term ∷ []) rows [] found → Looks rows found
looks rows found finds = record {
  none = λ is. no_members rows (λ row there. subst (λ l. Has l (projection (rowid_term ∷ []) [] row)) is (finds.complete row there refl));
  some = λ is. no_members found (λ x there. let from = finds.sound x there in subst (λ l. Has l from.0) is from.1);
}

module _ (sql name : Word) (tree : ℕ) (schema : Schema) (asks : Asks schema sql (look_at tree name)) where
  looked : (old new : State) → old.now.schema ≡ schema → (found : List Row) → overlay old.now.trees [] tree ≡ old.now.trees tree → Shown sql [] old new found → Looks (old.now.trees tree) found
  looked old new has found is ran =
      looks (old.now.trees tree) found (finds_passing tree [] (rowid_term ∷ []) old.now [] found is (reads_as sql [] old new schema has (look_at tree name) asks.0 asks.1 asks.2 found ran))

module _ (tables : List Table) (indexes : List Index) (views : List View) where
  abbrev schema : Schema
  schema = schema_with tables indexes views

  module _ (old new : State) (has : old.now.schema ≡ schema) (found : List Row) where
    pub looks_at_rules : Shown look_at_rules [] old new found → Looks (old.now.trees 0) found
    looks_at_rules = looked look_at_rules (codes "id") 0 schema (look_at_rules_is tables indexes views) old new has found refl

    pub looks_at_routes : Shown look_at_routes [] old new found → Looks (old.now.trees 1) found
    looks_at_routes = looked look_at_routes (codes "rowid") 1 schema (look_at_routes_is tables indexes views) old new has found refl

    pub looks_at_meta : Shown look_at_meta [] old new found → Looks (old.now.trees 3) found
    looks_at_meta = looked look_at_meta (codes "id") 3 schema (look_at_meta_is tables indexes views) old new has found refl

    pub looks_at_suppress : Shown look_at_suppress [] old new found → Looks (old.now.trees 4) found
    looks_at_suppress = looked look_at_suppress (codes "rule") 4 schema (look_at_suppress_is tables indexes views) old new has found refl
