-- A route that is put is a new row, or takes the place of the row with its key.
use Rattle.std.proofs.Common.{◌≡◌, ◌⊎◌, inl, inr, ℤ, true, false, List, [], ◌∷◌, ◌++◌, map, drop, Some, Equal, refl, sym, ap, subst, ◌∙◌, true≢false}
use Rattle.std.proofs.lemmas.Bool.{and_from, and_parts, false_from_ne_true}
use Rattle.std.proofs.lemmas.Cmp.{tied_back}
use Rattle.std.specs.List.{list_all}
use Rattle.std.specs.Ordering.{is_eq}
use Rattle.sqlite.specs.Cast.{cast_row}
use Rattle.sqlite.specs.Edit.{Applies, Edit, are_fresh, edit_of, id_in, left_by, put_all}
use Rattle.sqlite.specs.Rowids.TheVariants.{Given}
use Rattle.sqlite.specs.Schema.{Schema}
use Rattle.sqlite.specs.Table.{Table}
use Rattle.sqlite.specs.Term.{eval_all, holds}
use Rattle.sqlite.specs.Tree.{Trees, has_rowid, rowid}
use Rattle.sqlite.specs.declared.types.Value.{Value}
use Rattle.sqlite.specs.declared.types.Value.TheVariants.{Int}
use Rattle.sqlite_rules.proofs.PlaceLemmas.{given}
use Rattle.sqlite_rules.proofs.ProbeLemmas.{has_mapped, mapped_has}
use Rattle.sqlite_rules.proofs.TableLemmas.{int_is, put_all_adds, put_all_has, put_all_keeps}
use Rattle.sqlite_rules.specs.Calls.{ids_of}
use Rattle.sqlite_rules.specs.Keys.{AreConflicts, conflicts}
use Rattle.sqlite_rules.specs.Lists.{Has}
use Rattle.sqlite_schema.specs.declared.schema.Index.{Index}
use Rattle.sqlite_schema.specs.declared.schema.Keys.TheVariants.{Enforced}
use Rattle.sqlite_schema.specs.declared.schema.View.{View}
use Rattle.sqlite_value.proofs.OrderLemmas.{value_cmp_total}
use Rattle.sqlite_value.specs.Order.{Row, value_cmp}
use Rattle.prt_route.specs.declared.route.Route.{Route}
use Rattle.prt_rows.proofs.Casts.{cast_int, cast_route}
use Rattle.prt_rows.proofs.Found.{Finds, has_left, left_has}
use Rattle.prt_rows.proofs.Keyed.{alone, equal_is, keyed-put_all, keyed-without_all}
use Rattle.prt_rows.proofs.OneKey.{one_rowid}
use Rattle.prt_rows.proofs.RouteKeys.{conflict_is, equal_if_int, keys_equal, row_has_key, same_key, split, tied_if_equal}
use Rattle.prt_rows.specs.Effects.{AreRouteRows, IsKeyed, has_key_of}
use Rattle.prt_rows.specs.Kept.{kept_route}
use Rattle.prt_rows.specs.Meanings.{replaced_terms, same_rowid}
use Rattle.prt_rows.specs.Others.{AreNotOfRoutes}
use Rattle.prt_rows.specs.RouteRow.{route_row}
use Rattle.prt_rows.specs.Tables.{key_places, route_key, route_table, schema_with}

-- the parameters of the UPDATE that takes the place of the INSERT: the route's, the rowid that was met, and the row that was to be
abbrev pub update_values : Route → Value → ℤ → Row
update_values route met id = route_row route ++ met ∷ kept_route (Int id) route

module _ (tables : List Table) (indexes : List Index) (views : List View) (free : AreNotOfRoutes indexes) (route : Route) (db next : Trees) (routes : AreRouteRows (db 1)) (distinct : IsKeyed (db 1)) where
  abbrev schema : Schema
  schema = schema_with tables indexes views

  id_of : (x : Row) → Has (db 1) x → rowid x ≡ Int (id_in (rowid x))
  id_of x there = int_is (rowid x) (distinct.ints x there)

  -- the parts of `Puts` on the rows
  pub record PutsRow : Type 0 where
    pub sound : (x : Row) → Has (next 1) x → (drop 1 x ≡ route_row route) ⊎ (Has (db 1) x × (has_key_of route x ≡ false))
    pub here : (x : Row) × Has (next 1) x × (drop 1 x ≡ route_row route)
    pub complete : (x : Row) → Has (db 1) x → has_key_of route x ≡ false → Has (next 1) x
    pub keyed : IsKeyed (next 1)

  -- no row has the key, and one more row is there
  pub puts_new : (id : ℤ) → AreConflicts (Some key_places) (route_key ∷ indexes) route_table (db 1) (kept_route (Int id) route) []
      → Applies schema Enforced db (edit_of db route_table [] Given 0 (kept_route (Int id) route ∷ [])) next → PutsRow
  puts_new id none step =
      let new = kept_route (Int id) route in
      let edit = edit_of db route_table [] Given 0 (new ∷ []) in
      let news : edit.news ≡ new ∷ [] = ap (λ x. x ∷ []) (cast_route (Int id) route (cast_int id)) in
      let rows : next 1 ≡ put_all (db 1) (new ∷ []) = step.rows ∙ ap (put_all (db 1)) news in
      let fresh : are_fresh (db 1) (new ∷ []) ≡ true = subst (λ ns. are_fresh (db 1) ns ≡ true) news step.fresh in
      let fails = λ (x : Row) (there : Has (db 1) x).
      let other = routes x there in
      false_from_ne_true (has_key_of route x) (λ pass.
      let same : same_key other.0 route ≡ true = sym (row_has_key x other.0 route other.1) ∙ pass in
      let met = ap (λ y. conflicts (Some key_places) (route_key ∷ indexes) route_table new y) (split x other.0 other.1) ∙ conflict_is indexes free (rowid x) (Int id) other.0 route ∙ same in
      absurd (none.complete x there met)) in
      record {
        sound = λ x there. elim (put_all_has (new ∷ []) (db 1) x (subst (λ l. Has l x) rows there)) [
          | inl is ↦ elim is [ inl same ↦ inl (ap (drop 1) same) | inr nothing ↦ absurd nothing ]
          | inr was ↦ inr (was, fails x was)
        ];
        here = (new, subst (λ l. Has l new) (sym rows) (put_all_adds (new ∷ []) (db 1) new fresh (inl refl)), refl);
        complete = λ x was _. subst (λ l. Has l x) (sym rows) (put_all_keeps (new ∷ []) (db 1) x fresh was);
        keyed = subst IsKeyed (sym rows) (keyed-put_all (new ∷ []) (db 1) refl fresh distinct);
      }

  -- the row that has the key is set
  module _ (id : ℤ) (old : Row) (q : Route) (there : Has (db 1) old) (is : drop 1 old ≡ route_row q) (same : same_key q route ≡ true) (found : List Row)
      (finds : Finds same_rowid replaced_terms (db 1) (update_values route (rowid old) id) found) (step : Applies schema Enforced db (edit_of db route_table (ids_of found) Given 1 found) next) where
    abbrev params : Row
    params = update_values route (rowid old) id

    abbrev new : Row
    new = kept_route (rowid old) route

    abbrev edit : Edit
    edit = edit_of db route_table (ids_of found) Given 1 found

    matches_one : (x : Row) → Has (db 1) x → list_all (holds (params ∷ x ∷ [])) same_rowid ≡ true → x ≡ old
    matches_one x was pass = alone (db 1) distinct x old was there (tied_if_equal (rowid x) (rowid old) _ _ (id_of x was) (id_of old there) (and_parts _ _ pass).0)

    old_matches : list_all (holds (params ∷ old ∷ [])) same_rowid ≡ true
    old_matches = and_from _ _ (equal_if_int (rowid old) _ (id_of old there)) refl

    shown : eval_all replaced_terms (params ∷ old ∷ []) ≡ rowid old ∷ new
    shown =
        let keys = keys_equal q route same in
        let at_keys : eval_all replaced_terms (params ∷ kept_route (rowid old) q ∷ []) ≡ rowid old ∷ new = rw (keys.0, keys.1, keys.2, keys.3) refl in
        ap (λ x. eval_all replaced_terms (params ∷ x ∷ [])) (split old q is) ∙ at_keys

    found_are : (x : Row) → Has found x → x ≡ rowid old ∷ new
    found_are x h = let m = finds.sound x h in m.3 ∙ ap (λ y. eval_all replaced_terms (params ∷ y ∷ [])) (matches_one m.0 m.1 m.2) ∙ shown

    cast_new : cast_row route_table new ≡ new
    cast_new =
        let int = id_of old there in
        ap (λ v. cast_row route_table (kept_route v route)) int ∙ cast_route (Int (id_in (rowid old))) route (cast_int _) ∙ ap (λ v. kept_route v route) (sym int)

    news_are : (x : Row) → Has edit.news x → x ≡ new
    news_are x h =
        let m = has_mapped (λ s. cast_row route_table (drop 1 s)) found x (subst (λ l. Has l x) (given _ _) h) in
        m.2 ∙ ap (λ s. cast_row route_table (drop 1 s)) (found_are m.0 m.1) ∙ cast_new

    new_in : Has edit.news new
    new_in =
        let m = mapped_has (λ s. cast_row route_table (drop 1 s)) found _ (finds.complete old there old_matches) in
        let v : cast_row route_table (drop 1 (eval_all replaced_terms (params ∷ old ∷ []))) ≡ new = ap (λ s. cast_row route_table (drop 1 s)) shown ∙ cast_new in
        subst (λ l. Has l new) (sym (given _ _)) (subst (Has (map (λ s. cast_row route_table (drop 1 s)) found)) v m)

    gone_is : (i : ℤ) → Has (ids_of found) i → i ≡ id_in (rowid old)
    gone_is i h = let m = has_mapped (λ (s : Row). id_in (rowid s)) found i h in m.2 ∙ ap (λ (s : Row). id_in (rowid s)) (found_are m.0 m.1)

    old_gone : Has (ids_of found) (id_in (rowid old))
    old_gone =
        let f = finds.complete old there old_matches in
        subst (Has (ids_of found)) (ap (λ (s : Row). id_in (rowid s)) shown) (mapped_has (λ (s : Row). id_in (rowid s)) found _ f)

    there_now : Has (next 1) new
    there_now = subst (λ l. Has l new) (sym step.rows) (put_all_adds edit.news (left_by db edit) new step.fresh new_in)

    id_now : (x : Row) → Has (next 1) x → rowid x ≡ Int (id_in (rowid x))
    id_now x h = elim (put_all_has edit.news (left_by db edit) x (subst (λ l. Has l x) step.rows h)) [
      | inl fresh ↦ rw (news_are x fresh) (id_of old there)
      | inr left ↦ id_of x (left_has (ids_of found) (db 1) x left).0
    ]

    tied : (x : Row) → Has (next 1) x → (p : Route) → drop 1 x ≡ route_row p → same_key p route ≡ true → value_cmp (rowid new) (rowid x) ≡ Equal
    tied x h p spells key = one_rowid tables indexes views next step.fits new x _ _ route p there_now h (id_of old there) (id_now x h) refl spells key

    pub puts_in_place : PutsRow
    puts_in_place = record {
      sound = λ x h. elim (put_all_has edit.news (left_by db edit) x (subst (λ l. Has l x) step.rows h)) [
        | inl fresh ↦ inl (ap (drop 1) (news_are x fresh))
        | inr left ↦
            let was = left_has (ids_of found) (db 1) x left in
            let p = routes x was.0 in
            inr (
              was.0,
              false_from_ne_true _ (λ pass. absurd (
                  let tie = tied x h p.0 p.1 (sym (row_has_key x p.0 route p.1) ∙ pass) in
                  let apart = was.1 (id_in (rowid old)) old_gone in
                  let hit : has_rowid (id_in (rowid old)) x ≡ true = ap (λ v. is_eq (value_cmp (rowid x) v)) (sym (id_of old there)) ∙ ap is_eq (tied_back value_cmp_total (rowid old) (rowid x) tie) in
                  true≢false (sym hit ∙ apart))),
            )
      ];
      here = (new, there_now, refl);
      complete = λ x was fails.
          let stays = has_left (ids_of found) (db 1) x was (λ i gone. false_from_ne_true _ (λ hit. absurd (
          let tie : value_cmp (rowid x) (rowid old) ≡ Equal = rw (id_of old there, ← gone_is i gone) (equal_is _ hit) in
          let one = alone (db 1) distinct x old was there tie in
          let pass : has_key_of route x ≡ true = rw one (row_has_key old q route is ∙ same) in
          true≢false (sym pass ∙ fails)))) in
          subst (λ l. Has l x) (sym step.rows) (put_all_keeps edit.news (left_by db edit) x step.fresh stays);
      keyed = subst IsKeyed (sym step.rows) (keyed-put_all edit.news (left_by db edit) step.keyed step.fresh (keyed-without_all (ids_of found) (db 1) distinct));
    }
