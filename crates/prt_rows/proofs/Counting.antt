-- What the UPDATE of the count does.
use Rattle.std.proofs.Common.{◌≡◌, ℕ, pos, List, [], ◌∷◌, map, IsPermutation, Ok, refl, ap, subst, ◌∙◌}
use Rattle.std.proofs.lemmas.Cmp.{tied_itself}
use Rattle.sqlite.proofs.Callers.{one_permutation, one_step}
use Rattle.sqlite.specs.Edit.{edit_of, edited}
use Rattle.sqlite.specs.Effect.{Database}
use Rattle.sqlite.specs.Program.{overlay}
use Rattle.sqlite.specs.Query.{IsAnswer, Output, output, page}
use Rattle.sqlite.specs.Rows.{Written}
use Rattle.sqlite.specs.Rowids.TheVariants.{Given}
use Rattle.sqlite.specs.Schema.{Schema}
use Rattle.sqlite.specs.State.{State, mode_of, Executes}
use Rattle.sqlite.specs.Table.{Table}
use Rattle.sqlite.specs.Term.{Term, lit, col}
use Rattle.sqlite.specs.Tree.{Trees}
use Rattle.sqlite.specs.declared.types.Value.TheVariants.{Null, Int}
use Rattle.sqlite_rules.specs.Calls.{ids_of}
use Rattle.sqlite_rules.specs.Edit.{taken_by}
use Rattle.sqlite_schema.specs.declared.schema.Index.{Index}
use Rattle.sqlite_schema.specs.declared.schema.View.{View}
use Rattle.sqlite_value.proofs.OrderLemmas.{value_cmp_total}
use Rattle.sqlite_value.specs.Order.{Row}
use Rattle.prt_rows.proofs.Casts.{cast_count}
use Rattle.prt_rows.proofs.Writing.{changes_only, same_value, went, wrote}
use Rattle.prt_rows.proofs.Foreign.{no_works}
use Rattle.prt_rows.proofs.Texts.{set_count_is}
use Rattle.prt_rows.specs.Cell.{number}
use Rattle.prt_rows.specs.Effects.{Sets}
use Rattle.prt_rows.specs.Kept.{count_values, kept_count}
use Rattle.prt_rows.specs.Meanings.{over_tree, set_count_command}
use Rattle.prt_rows.specs.Others.{AreOthers}
use Rattle.prt_rows.specs.Statements.{set_count}
use Rattle.prt_rows.specs.Tables.{meta_table, schema_with}

abbrev shows : List Term
shows = col 1 0 ∷ col 1 0 ∷ lit Null ∷ col 1 2 ∷ col 0 0 ∷ []

-- the one row of the table, as the UPDATE shows it
one_row : (db : Trees) (before count : ℕ) (rows : List Row) → db 3 ≡ kept_count before ∷ [] → IsAnswer (over_tree 3 [] shows) (overlay db []) (count_values count) rows → rows ≡ (number 1 ∷ kept_count count) ∷ []
one_row db before count rows has a =
    let query = over_tree 3 [] shows in
    let params = count_values count in
    let o : Output = ([], number 1 ∷ kept_count count) in
    let staged : a.staged ≡ (params ∷ kept_count before ∷ []) ∷ [] = a.grouped ∙ rw has in
    let kept : a.kept ≡ o ∷ [] = a.distinct ∙ ap (map (output query)) staged in
    let ordered = one_permutation o a.ordered (subst (λ k. IsPermutation k a.ordered) kept a.same) in
    a.shown ∙ ap (λ xs. page query params (map (λ (p : Output). p.1) xs)) ordered

module _ (tables : List Table) (indexes : List Index) (views : List View) (others : AreOthers tables) where
  abbrev schema : Schema
  schema = schema_with tables indexes views

  pub sets_count : (old new : State) (before count changed : ℕ) → old.now.schema ≡ schema → old.now.trees 3 ≡ kept_count before ∷ [] → Executes set_count (count_values count) old new (Ok changed)
      → Sets meta_table (kept_count count) old.now new.now
  sets_count old new before count changed has row ran =
      let db = old.now.trees in
      let params = count_values count in
      let is = set_count_is tables indexes views in
      let w = wrote schema 2 meta_table refl set_count set_count_command is (λ _ _ _ _ _ runs. runs) (λ _ _ _ _ _ _ _ does. does) old new params changed has ran in
      let given = went w.1 in
      let written = went given.2 in
      let trees : w.0.trees ≡ written.0 = ap (λ (it : Written). it.trees) (same_value written.2) in
      let now = w.2 ∙ ap (λ (t : Trees). record { schema = schema; trees = t }) trees in
      let edit = edit_of db meta_table (ids_of given.0) Given 1 given.0 in
      let step = one_step schema (mode_of old).keys db written.0 edit (no_works 3 tables indexes views others.meta others.elsewhere (mode_of old).keys refl 0 (taken_by db edit) edit.news) written.1 in
      let answer = one_row db before count given.0 row (given.1.answer Null) in
      let same = tied_itself value_cmp_total (Int (pos 1)) in
      let made : edited db edit ≡ kept_count count ∷ [] = ap (λ rows. edited db (edit_of db meta_table (ids_of rows) Given 1 rows)) answer ∙ rw (row, same, cast_count count) in
      record {
        only = changes_only schema meta_table old.now new.now written.0 has now step.tables;
        alone = ap (λ (d : Database). d.trees 3) now ∙ step.rows ∙ made;
      }
