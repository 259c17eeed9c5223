-- What the INSERT of a rule, of a length, and of the row of `meta`, does.
use Rattle.std.proofs.Common.{◌≡◌, ◌/◌, inl, inr, ℕ, List, [], ◌∷◌, length, Some, Ok, refl, sym, ap, subst, ◌∙◌}
use Rattle.std.specs.Prelude.{codes, slice_get}
use Rattle.sqlite.proofs.Callers.{one_step}
use Rattle.sqlite.specs.Cast.{cast_row}
use Rattle.sqlite.specs.Command.TheVariants.{Insert}
use Rattle.sqlite.specs.Edit.{edit_of, edited, left_by, numbered}
use Rattle.sqlite.specs.Effect.{Database, value_rows}
use Rattle.sqlite.specs.Rows.{Written, stamped}
use Rattle.sqlite.specs.Rowids.TheVariants.{Chosen}
use Rattle.sqlite.specs.Schema.{Schema}
use Rattle.sqlite.specs.Source.TheVariants.{Values}
use Rattle.sqlite.specs.State.{State, mode_of, Executes}
use Rattle.sqlite.specs.Table.{Table}
use Rattle.sqlite.specs.Term.{Term}
use Rattle.sqlite.specs.Tree.{Trees}
use Rattle.sqlite_rules.proofs.TableLemmas.{put_all_has, put_all_keeps, put_all_adds}
use Rattle.sqlite_rules.specs.Action.{works}
use Rattle.sqlite_rules.specs.Lists.{Has}
use Rattle.sqlite_schema.specs.declared.schema.Index.{Index}
use Rattle.sqlite_schema.specs.declared.schema.Keys.{Keys}
use Rattle.sqlite_schema.specs.declared.schema.Reference.{Reference}
use Rattle.sqlite_schema.specs.declared.schema.View.{View}
use Rattle.sqlite_value.specs.Order.{Row}
use Rattle.prt_addr.specs.Word.{Word}
use Rattle.prt_rule.specs.declared.rule.Rule.{Rule}
use Rattle.prt_rows.proofs.Casts.{cast_count, cast_length, cast_rule}
use Rattle.prt_rows.proofs.Foreign.{no_works, no_works_of_new}
use Rattle.prt_rows.proofs.Keyed.{keyed-put_all}
use Rattle.prt_rows.proofs.Texts.{Means, insert_meta_is, insert_rule_is, insert_suppress_is}
use Rattle.prt_rows.proofs.Writing.{changes_only, same_value, went, wrote}
use Rattle.prt_rows.specs.Cell.{number}
use Rattle.prt_rows.specs.Columns.{Column}
use Rattle.prt_rows.specs.Effects.{Adds, IsKeyed}
use Rattle.prt_rows.specs.Kept.{kept_count, kept_length, kept_rule}
use Rattle.prt_rows.specs.Meanings.{meta_terms, rule_terms, suppress_terms}
use Rattle.prt_rows.specs.MetaRow.{meta_columns, meta_row}
use Rattle.prt_rows.specs.Others.{AreOthers}
use Rattle.prt_rows.specs.RuleRow.{rule_columns, rule_row}
use Rattle.prt_rows.specs.SuppressRow.{suppress_columns, suppress_row}
use Rattle.prt_rows.specs.Statements.{insert_meta, insert_rule, insert_suppress}
use Rattle.prt_rows.specs.Tables.{meta_table, rule_table, schema_with, suppress_table, table_by_id, to_rule}
use Rattle.prt_rows.specs.declared.suppress_row.RuleLength.{RuleLength}

abbrev table_referring : {X : Type 0} → Word → ℕ → List (Column X) → List Reference → Table
table_referring name tree columns references = record (table_by_id name tree columns) { references = references }

-- a row that is put into a table by its id
module _ {X : Type 0} (schema : Schema) (place : ℕ) (name : Word) (tree : ℕ) (columns : List (Column X)) (references : List Reference) (there : slice_get schema.tables place ≡ Some (table_referring name tree columns references))
    (quiet : (keys : Keys) (news : List Row) → works schema keys 0 tree [] news ≡ []) (sql : List ℕ) (terms : List Term) (width : ℕ) (means : Means schema sql (Insert place (Values terms width))) where
  abbrev table : Table
  table = table_referring name tree columns references

  adds : (old new : State) (params : Row) (id : ℕ) (rest : Row) (count : ℕ) → old.now.schema ≡ schema → value_rows (stamped table params) width (length terms / width) terms ≡ (number id ∷ rest) ∷ []
      → cast_row table (number id ∷ rest) ≡ number id ∷ rest → Executes sql params old new (Ok count) → Adds table (number id ∷ rest) old.now new.now
  adds old new params id rest count has is cast ran =
      let row = number id ∷ rest in
      let db = old.now.trees in
      let w = wrote schema place table there sql (Insert place (Values terms width)) means (λ _ _ _ _ _ runs. runs) (λ _ _ _ _ _ _ _ does. does) old new params count has ran in
      let given = went w.1 in
      let written = went (went given.2).2 in
      let counted = went written.2 in
      let trees : w.0.trees ≡ written.0 = ap (λ (it : Written). it.trees) (same_value counted.2) ∙ same_value counted.1 in
      let edit = edit_of db table [] Chosen 0 given.0 in
      let step = one_step schema (mode_of old).keys db written.0 edit (quiet (mode_of old).keys edit.news) written.1 in
      let now = w.2 ∙ ap (λ (t : Trees). record { schema = schema; trees = t }) trees in
      let news : edit.news ≡ row ∷ [] = ap (λ rows. (edit_of db table [] Chosen 0 rows).news) (given.1.1 ∙ is) ∙ ap (λ row. numbered Chosen (left_by db edit) (row ∷ [])) cast in
      let rows : new.now.trees table.tree ≡ edited db edit = ap (λ (d : Database). d.trees table.tree) now ∙ step.rows in
      record {
        only = changes_only schema table old.now new.now written.0 has now step.tables;
        sound = λ x there. elim (put_all_has edit.news (left_by db edit) x (subst (λ l. Has l x) rows there)) [
          | inl fresh ↦ elim (subst (λ l. Has l x) news fresh) [ inl same ↦ inl same | inr none ↦ absurd none ]
          | inr was ↦ inr was
        ];
        here = subst (λ l. Has l row) (sym rows) (put_all_adds edit.news (left_by db edit) row step.fresh (subst (λ l. Has l row) (sym news) (inl refl)));
        complete = λ x was. subst (λ l. Has l x) (sym rows) (put_all_keeps edit.news (left_by db edit) x step.fresh was);
        keyed = λ keyed. subst IsKeyed (sym rows) (keyed-put_all edit.news (left_by db edit) step.keyed step.fresh keyed);
      }

module _ (tables : List Table) (indexes : List Index) (views : List View) (others : AreOthers tables) where
  abbrev schema : Schema
  schema = schema_with tables indexes views

  pub adds_rule : (old new : State) (rule : Rule) (count : ℕ) → old.now.schema ≡ schema → Executes insert_rule (rule_row rule) old new (Ok count) → Adds rule_table (kept_rule rule) old.now new.now
  adds_rule old new rule count has =
      adds schema 0 (codes "rule") 0 rule_columns [] refl (no_works_of_new tables indexes views others.rule others.elsewhere) insert_rule rule_terms 13 (insert_rule_is tables indexes views)
      old new (rule_row rule) rule.id _ count has refl (cast_rule rule)

  pub adds_count : (old new : State) (commands count : ℕ) → old.now.schema ≡ schema → Executes insert_meta (meta_row commands) old new (Ok count) → Adds meta_table (kept_count commands) old.now new.now
  adds_count old new commands count has =
      adds schema 2 (codes "meta") 3 meta_columns [] refl (λ keys. no_works 3 tables indexes views others.meta others.elsewhere keys refl 0 []) insert_meta meta_terms 4 (insert_meta_is tables indexes views)
      old new (meta_row commands) 1 _ count has refl (cast_count commands)

  pub adds_length : (old new : State) (length : RuleLength) (count : ℕ) → old.now.schema ≡ schema → Executes insert_suppress (suppress_row length) old new (Ok count) → Adds suppress_table (kept_length length) old.now new.now
  adds_length old new length count has =
      adds schema 3 (codes "suppress") 4 suppress_columns (to_rule ∷ []) refl (λ keys. no_works 4 tables indexes views others.suppress others.elsewhere keys refl 0 []) insert_suppress suppress_terms 3 (insert_suppress_is tables indexes views)
      old new (suppress_row length) length.rule _ count has refl (cast_length length)
