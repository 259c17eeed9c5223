-- What a DELETE from a table does, whatever its tests are.
use Rattle.std.proofs.Common.{◌≡◌, ℕ, true, false, List, [], ◌∷◌, Some, Ok, sym, ap, subst, ◌∙◌, true≢false, Equal}
use Rattle.std.proofs.lemmas.Bool.{false_from_ne_true}
use Rattle.std.proofs.lemmas.Cmp.{tied_itself}
use Rattle.std.specs.Ordering.{is_eq}
use Rattle.std.specs.Prelude.{slice_get}
use Rattle.sqlite.proofs.Callers.{one_step}
use Rattle.sqlite.specs.Command.{Command}
use Rattle.sqlite.specs.Edit.{edit_of, id_in, without_all}
use Rattle.sqlite.specs.Effect.{Database}
use Rattle.sqlite.specs.Program.{overlay}
use Rattle.sqlite.specs.Rows.{Written}
use Rattle.sqlite.specs.Rowids.TheVariants.{Given}
use Rattle.sqlite.specs.Schema.{Schema}
use Rattle.sqlite.specs.State.{State, mode_of, Executes}
use Rattle.sqlite.specs.Table.{Table}
use Rattle.sqlite.specs.Term.{Term}
use Rattle.sqlite.specs.Tree.{Trees, rowid, has_rowid}
use Rattle.sqlite.specs.declared.types.Value.TheVariants.{Int}
use Rattle.sqlite_rules.proofs.ProbeLemmas.{has_mapped, mapped_has}
use Rattle.sqlite_rules.proofs.TableLemmas.{int_is}
use Rattle.sqlite_rules.specs.Action.{works}
use Rattle.sqlite_rules.specs.Calls.{ids_of}
use Rattle.sqlite_rules.specs.Edit.{taken_by}
use Rattle.sqlite_rules.specs.Lists.{Has}
use Rattle.sqlite_schema.specs.declared.schema.Keys.{Keys}
use Rattle.sqlite_value.proofs.OrderLemmas.{value_cmp_total}
use Rattle.sqlite_value.specs.Order.{Row, value_cmp}
use Rattle.prt_rows.proofs.Found.{Finds, finds_passing, has_left, left_has}
use Rattle.prt_rows.proofs.Keyed.{alone, equal_is, keyed-without_all}
use Rattle.prt_rows.proofs.Texts.{Means}
use Rattle.prt_rows.proofs.Writing.{changes_only, same_value, went, wrote}
use Rattle.prt_rows.specs.Effects.{Deletes, IsKeyed, passes}
use Rattle.prt_rows.specs.Meanings.{deletion, rowid_term}

-- the rowids of the rows that pass are taken out, so those rows are
module _ (tests more : List Term) (params : Row) (rows found : List Row) (keyed : IsKeyed rows) (finds : Finds tests (rowid_term ∷ more) rows params found) where
  id_of : (x : Row) → Has rows x → rowid x ≡ Int (id_in (rowid x))
  id_of x there = int_is (rowid x) (keyed.ints x there)

  pub none_passes : (x : Row) → Has (without_all rows (ids_of found)) x → Has rows x × (passes tests params x ≡ false)
  none_passes x there =
      let left = left_has (ids_of found) rows x there in (
        left.0,
        false_from_ne_true _ (λ pass.
            let taken = mapped_has (λ (r : Row). id_in (rowid r)) found _ (finds.complete x left.0 pass) in
            let same : has_rowid (id_in (rowid x)) x ≡ true = rw (id_of x left.0) (ap is_eq (tied_itself value_cmp_total (Int (id_in (rowid x))))) in
            true≢false (sym same ∙ left.1 _ taken)),
      )

  pub others_stay : (x : Row) → Has rows x → passes tests params x ≡ false → Has (without_all rows (ids_of found)) x
  others_stay x there fails = has_left (ids_of found) rows x there (λ id among.
      let r = has_mapped (λ (r : Row). id_in (rowid r)) found id among in
      let m = finds.sound r.0 r.1 in
      let named : id ≡ id_in (rowid m.0) = r.2 ∙ ap (λ (q : Row). id_in (rowid q)) m.3 in
      false_from_ne_true _ (λ same.
      let tie : value_cmp (rowid x) (rowid m.0) ≡ Equal = rw (id_of m.0 m.1, ← named) (equal_is _ same) in
      let one : x ≡ m.0 = alone rows keyed x m.0 there m.1 tie in
      true≢false (sym (rw one m.2) ∙ fails)))

-- for any text that deletes from a table to which no other refers
module _ (schema : Schema) (place : ℕ) (table : Table) (there : slice_get schema.tables place ≡ Some table) (quiet : (keys : Keys) (olds news : List Row) → works schema keys 0 table.tree olds news ≡ [])
    (sql : List ℕ) (tests : List Term) (means : Means schema sql (deletion place table.tree tests)) where
  abbrev command : Command
  command = deletion place table.tree tests

  pub deletes : (old new : State) (params : Row) (count : ℕ) → old.now.schema ≡ schema → overlay old.now.trees [] table.tree ≡ old.now.trees table.tree → IsKeyed (old.now.trees table.tree)
      → Executes sql params old new (Ok count) → Deletes table tests params old.now new.now
  deletes old new params count has shown keyed ran =
      let db = old.now.trees in
      let tree = table.tree in
      let w = wrote schema place table there sql command means (λ _ _ _ _ _ runs. runs) (λ _ _ _ _ _ _ _ does. does) old new params count has ran in
      let given = went w.1 in
      let written = went given.2 in
      let trees : w.0.trees ≡ written.0 = ap (λ (it : Written). it.trees) (same_value written.2) in
      let now = w.2 ∙ ap (λ (t : Trees). record { schema = schema; trees = t }) trees in
      let edit = edit_of db table (ids_of given.0) Given 0 [] in
      let step = one_step schema (mode_of old).keys db written.0 edit (quiet (mode_of old).keys (taken_by db edit) edit.news) written.1 in
      let rows : new.now.trees tree ≡ without_all (db tree) (ids_of given.0) = ap (λ (d : Database). d.trees tree) now ∙ step.rows in
      let finds = finds_passing tree tests (rowid_term ∷ []) _ params given.0 shown given.1 in
      record {
        only = changes_only schema table old.now new.now written.0 has now step.tables;
        sound = λ x stays. none_passes tests [] params (db tree) given.0 keyed finds x (subst (λ l. Has l x) rows stays);
        complete = λ x was fails. subst (λ l. Has l x) (sym rows) (others_stay tests [] params (db tree) given.0 keyed finds x was fails);
        keyed = subst IsKeyed (sym rows) (keyed-without_all (ids_of given.0) (db tree) keyed);
      }
