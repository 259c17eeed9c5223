-- What the statement that inserts a route does to the rows.
use Rattle.std.proofs.Common.{◌≡◌, inl, inr, ℕ, List, [], ◌∷◌, Ok, true, drop, refl, sym, ap, subst, ◌∙◌, true≢false}
use Rattle.std.proofs.lemmas.Bool.{and_parts, false_from_ne_true, not-true}
use Rattle.std.proofs.lemmas.Cmp.{tied_back}
use Rattle.std.specs.Ordering.{is_eq}
use Rattle.sqlite.proofs.Callers.{one_step}
use Rattle.sqlite.specs.Edit.{are_fresh, edit_of, id_in, next_rowid, numbered, put_all}
use Rattle.sqlite.specs.Effect.{Database}
use Rattle.sqlite.specs.Rows.{Written}
use Rattle.sqlite.specs.Rowids.TheVariants.{Chosen}
use Rattle.sqlite.specs.Schema.{Schema}
use Rattle.sqlite.specs.State.{Executes, State, mode_of}
use Rattle.sqlite.specs.Table.{Table}
use Rattle.sqlite.specs.Tree.{Trees, rowid}
use Rattle.sqlite.specs.declared.types.Value.TheVariants.{Int, Null}
use Rattle.sqlite_rules.proofs.ListLemmas.{some_from}
use Rattle.sqlite_rules.proofs.TableLemmas.{int_is, put_all_adds, put_all_has, put_all_keeps}
use Rattle.sqlite_rules.specs.Lists.{Has}
use Rattle.sqlite_schema.specs.declared.schema.Index.{Index}
use Rattle.sqlite_schema.specs.declared.schema.View.{View}
use Rattle.sqlite_value.proofs.OrderLemmas.{value_cmp_total}
use Rattle.sqlite_value.specs.Order.{Row, value_cmp}
use Rattle.prt_route.specs.declared.route.Route.{Route}
use Rattle.prt_rows.proofs.Casts.{cast_null, cast_route}
use Rattle.prt_rows.proofs.Foreign.{no_works}
use Rattle.prt_rows.proofs.Keyed.{keyed-put_all}
use Rattle.prt_rows.proofs.OneKey.{one_rowid}
use Rattle.prt_rows.proofs.RouteKeys.{row_has_key}
use Rattle.prt_rows.proofs.Texts.{insert_route_is}
use Rattle.prt_rows.proofs.Writing.{changes_only, same_value, went, wrote}
use Rattle.prt_rows.specs.Effects.{AreRouteRows, IsKeyed, Puts, PutsBeside, has_key_of}
use Rattle.prt_rows.specs.Kept.{kept_route}
use Rattle.prt_rows.specs.Meanings.{insert_route_command}
use Rattle.prt_rows.specs.Others.{AreNotOfRoutes, AreOthers}
use Rattle.prt_rows.specs.RouteRow.{route_row}
use Rattle.prt_rows.specs.Statements.{insert_route}
use Rattle.prt_rows.specs.Tables.{route_table, schema_with}

-- a route that is put beside the others takes the place of none
pub puts_beside : (route : Route) (old new : Database) → PutsBeside route old new → Puts route old new
puts_beside route old new put = record {
  only = put.only;
  sound = λ x there. elim (put.sound x there) [ inl is ↦ inl is | inr was ↦ inr (was, put.apart x was) ];
  here = put.here;
  complete = λ x was fails. put.complete x was;
  keyed = put.keyed;
}

module _ (tables : List Table) (indexes : List Index) (views : List View) (others : AreOthers tables) (free : AreNotOfRoutes indexes) where
  abbrev schema : Schema
  schema = schema_with tables indexes views

  pub adds_route : (old new : State) (route : Route) (count : ℕ) → old.now.schema ≡ schema → AreRouteRows (old.now.trees 1) → IsKeyed (old.now.trees 1) → Executes insert_route (route_row route) old new (Ok count)
      → PutsBeside route old.now new.now
  adds_route old new route count has routes distinct ran =
      let params = route_row route in
      let db = old.now.trees in
      let row = kept_route (Int (next_rowid (db 1))) route in
      let w = wrote schema 1 route_table refl insert_route insert_route_command (insert_route_is tables indexes views) (λ _ _ _ _ _ runs. runs) (λ _ _ _ _ _ _ _ does. does) old new params count has ran in
      let given = went w.1 in
      let written = went (went given.2).2 in
      let counted = went written.2 in
      let trees : w.0.trees ≡ written.0 = ap (λ (it : Written). it.trees) (same_value counted.2) ∙ same_value counted.1 in
      let edit = edit_of db route_table [] Chosen 0 given.0 in
      let step = one_step schema (mode_of old).keys db written.0 edit (no_works 1 tables indexes views others.route others.elsewhere (mode_of old).keys refl 0 [] edit.news) written.1 in
      let now = w.2 ∙ ap (λ (t : Trees). record { schema = schema; trees = t }) trees in
      let news : edit.news ≡ row ∷ [] = ap (λ rows. (edit_of db route_table [] Chosen 0 rows).news) given.1.1 ∙ ap (λ r. numbered Chosen (db 1) (r ∷ [])) (cast_route Null route cast_null) in
      let made : written.0 1 ≡ put_all (db 1) (row ∷ []) = step.rows ∙ ap (put_all (db 1)) news in
      let rows : new.now.trees 1 ≡ put_all (db 1) (row ∷ []) = ap (λ (d : Database). d.trees 1) now ∙ made in
      let fresh : are_fresh (db 1) (row ∷ []) ≡ true = subst (λ ns. are_fresh (db 1) ns ≡ true) news step.fresh in
      let here : Has (put_all (db 1) (row ∷ [])) row = put_all_adds (row ∷ []) (db 1) row fresh (inl refl) in
      let stays = λ (x : Row) (was : Has (db 1) x). put_all_keeps (row ∷ []) (db 1) x fresh was in
      let in_made = λ (x : Row) (there : Has (put_all (db 1) (row ∷ [])) x). subst (λ l. Has l x) (sym made) there in
      record {
        only = changes_only schema route_table old.now new.now written.0 has now step.tables;
        sound = λ x there. elim (put_all_has (row ∷ []) (db 1) x (subst (λ l. Has l x) rows there)) [
          | inl is ↦ elim is [ inl same ↦ inl (ap (drop 1) same) | inr none ↦ absurd none ]
          | inr was ↦ inr was
        ];
        here = (row, subst (λ l. Has l row) (sym rows) here, refl);
        complete = λ x was. subst (λ l. Has l x) (sym rows) (stays x was);
        apart = λ x was.
            let p = routes x was in
            let id_x : rowid x ≡ Int (id_in (rowid x)) = int_is (rowid x) (distinct.ints x was) in
            false_from_ne_true (has_key_of route x) (λ pass.
            let tie = one_rowid tables indexes views written.0 step.fits row x _ _ route p.0 (in_made row here) (in_made x (stays x was)) refl id_x refl p.1 (sym (row_has_key x p.0 route p.1) ∙ pass) in
            let taken = some_from (λ r. is_eq (value_cmp (rowid r) (rowid row))) (db 1) x was (ap is_eq (tied_back value_cmp_total (rowid row) (rowid x) tie)) in
            absurd (true≢false (sym taken ∙ not-true _ (and_parts _ _ fresh).0)));
        keyed = subst IsKeyed (sym rows) (keyed-put_all (row ∷ []) (db 1) refl fresh distinct);
      }
