-- What a DELETE from the table of rules does to the rules and to their lengths.
use Rattle.std.proofs.Common.{◌≡◌, ◌⊎◌, inl, inr, ℕ, ℤ, Bool, true, false, List, [], ◌∷◌, Option, Some, None, Ok, refl, sym, ap, subst, ◌∙◌, true≢false}
use Rattle.std.proofs.lemmas.Bool.{false_from_ne_true}
use Rattle.std.proofs.lemmas.Cmp.{tied_itself}
use Rattle.std.specs.Ordering.{is_eq}
use Rattle.std.specs.Prelude.{find, unwrap_or}
use Rattle.sqlite.specs.Edit.{id_in, without_all}
use Rattle.sqlite.specs.Effect.{Database}
use Rattle.sqlite.specs.Rows.{Written}
use Rattle.sqlite.specs.Schema.{Schema}
use Rattle.sqlite.specs.State.{State, Executes}
use Rattle.sqlite.specs.Table.{Table}
use Rattle.sqlite.specs.Term.{Term}
use Rattle.sqlite.specs.Tree.{Trees, has_rowid, rowid}
use Rattle.sqlite.specs.declared.types.Value.TheVariants.{Int}
use Rattle.sqlite_rules.proofs.ListLemmas.{all_has, has_found}
use Rattle.sqlite_rules.proofs.ProbeLemmas.{has_mapped, mapped_has}
use Rattle.sqlite_rules.proofs.TableLemmas.{int_is}
use Rattle.sqlite_rules.specs.Action.{AreChildren}
use Rattle.sqlite_rules.specs.Calls.{ids_of}
use Rattle.sqlite_rules.specs.Edit.{row_at, taken_by}
use Rattle.sqlite_rules.specs.Lists.{Has}
use Rattle.sqlite_schema.specs.declared.schema.Index.{Index}
use Rattle.sqlite_schema.specs.declared.schema.View.{View}
use Rattle.sqlite_value.proofs.OrderLemmas.{value_cmp_total}
use Rattle.sqlite_value.specs.Order.{Row, value_cmp}
use Rattle.prt_rows.proofs.Cascade.{cascades, deleting, is_due, work_on}
use Rattle.prt_rows.proofs.Children.{child_of_gone, due_with, gone_with, id_test, same_id}
use Rattle.prt_rows.proofs.Deletions.{none_passes, others_stay}
use Rattle.prt_rows.proofs.Found.{Finds, finds_passing, has_left, left_has}
use Rattle.prt_rows.proofs.Keyed.{alone, equal_is, keyed-without_all}
use Rattle.prt_rows.proofs.Texts.{Means}
use Rattle.prt_rows.proofs.Writing.{same_value, went, wrote}
use Rattle.prt_rows.specs.Effects.{DeletesRules, IsKeyed, IsOfNone, has_same_rowid, passes}
use Rattle.prt_rows.specs.Meanings.{deletion, rowid_term}
use Rattle.prt_rows.specs.Others.{AreOthers}
use Rattle.prt_rows.specs.Tables.{rule_table, schema_with}

some_found : (id : ℤ) (rows : List Row) (row : Row) → Has rows row → has_rowid id row ≡ true → find (has_rowid id) rows ≡ None → ⊥
some_found id [] row there is none = there
some_found id (x ∷ rows) row there is none = go (has_rowid id x) refl (λ later rest. some_found id rows row later is rest)
  where
    go : (b : Bool) → has_rowid id x ≡ b → (Has rows row → find (has_rowid id) rows ≡ None → ⊥) → ⊥
    go true hit later = absurd (let e = (rw hit at none) in cc)
    go false miss later = elim there [
      | inl same ↦ true≢false (sym is ∙ ap (has_rowid id) same ∙ miss)
      | inr among ↦ later among (rw miss at none)
    ]

-- the rules that pass are taken out, and so are the rows of `suppress` that refer to them
module _ (tests : List Term) (params : Row) (db mid : Trees) (found : List Row) (keyed : IsKeyed (db 0)) (lengths : IsKeyed (db 4)) (finds : Finds tests (rowid_term ∷ []) (db 0) params found) (kept : mid 4 ≡ db 4) (ids : List ℤ)
    (children : AreChildren mid (work_on (taken_by db (deleting (ids_of found)))) ids ⊎ ((is_due (taken_by db (deleting (ids_of found))) ≡ false) × (ids ≡ []))) where
  abbrev olds : List Row
  olds = taken_by db (deleting (ids_of found))

  rule_id : (rule : Row) → Has (db 0) rule → rowid rule ≡ Int (id_in (rowid rule))
  rule_id rule there = int_is (rowid rule) (keyed.ints rule there)

  length_id : (x : Row) → Has (db 4) x → rowid x ≡ Int (id_in (rowid x))
  length_id x there = int_is (rowid x) (lengths.ints x there)

  has_its_rowid : (x : Row) → rowid x ≡ Int (id_in (rowid x)) → has_rowid (id_in (rowid x)) x ≡ true
  has_its_rowid x is = rw is (ap is_eq (tied_itself value_cmp_total (Int (id_in (rowid x)))))

  row_found : (rule : Row) → Has (db 0) rule → row_at (db 0) (id_in (rowid rule)) ≡ rule
  row_found rule there = go (find (has_rowid (id_in (rowid rule))) (db 0)) refl
    where
      go : (o : Option Row) → find (has_rowid (id_in (rowid rule))) (db 0) ≡ o → unwrap_or o [] ≡ rule
      go None is = absurd (some_found (id_in (rowid rule)) (db 0) rule there (has_its_rowid rule (rule_id rule there)) is)
      go (Some r) is =
          let h = has_found (has_rowid (id_in (rowid rule))) (db 0) r is in
          alone (db 0) keyed r rule h.0 there (ap (value_cmp (rowid r)) (rule_id rule there) ∙ equal_is _ h.1)

  taken : (rule : Row) → Has (db 0) rule → passes tests params rule ≡ true → Has olds rule
  taken rule there pass = subst (Has olds) (row_found rule there) (mapped_has (row_at (db 0)) (ids_of found) (id_in (rowid rule)) (mapped_has (λ (r : Row). id_in (rowid r)) found _ (finds.complete rule there pass)))

  was_rule : (old : Row) → Has olds old → (rule : Row) × Has (db 0) rule × (passes tests params rule ≡ true) × (old ≡ rule)
  was_rule old among =
      let m = has_mapped (row_at (db 0)) (ids_of found) old among in
      let r = has_mapped (λ (r : Row). id_in (rowid r)) found m.0 m.1 in
      let f = finds.sound r.0 r.1 in
      let named : m.0 ≡ id_in (rowid f.0) = r.2 ∙ ap (λ (q : Row). id_in (rowid q)) f.3 in
      (f.0, f.1, f.2, m.2 ∙ ap (row_at (db 0)) named ∙ row_found f.0 f.1)

  itself : (rule : Row) → Has (db 0) rule → same_id rule rule ≡ true
  itself rule there = id_test rule rule _ _ (rule_id rule there) (rule_id rule there) ∙ ap is_eq (tied_itself value_cmp_total (rowid rule))

  pub left_length : (x : Row) → Has (without_all (db 4) ids) x → Has (db 4) x × IsOfNone tests params (db 0) x
  left_length x there =
      let left = left_has ids (db 4) x there in
      (left.0, λ rule was same. false_from_ne_true _ (λ pass. gone children left.0 left.1 rule was same pass))
    where
      gone : AreChildren mid (work_on olds) ids ⊎ ((is_due olds ≡ false) × (ids ≡ [])) → Has (db 4) x → ((id : ℤ) → Has ids id → has_rowid id x ≡ false) → (rule : Row) → Has (db 0) rule → has_same_rowid x rule ≡ true → passes tests params rule ≡ true → ⊥
      gone (inl c) here apart rule was same pass =
          let is = length_id x here in
          let among = gone_with mid olds ids c x rule (id_in (rowid x)) (subst (λ l. Has l x) (sym kept) here) is (taken rule was pass) (id_test x rule _ _ is (rule_id rule was) ∙ same) (itself rule was) in
          true≢false (sym (has_its_rowid x is) ∙ apart _ among)
      gone (inr none) here apart rule was same pass = true≢false (sym (due_with olds rule (taken rule was pass) (itself rule was)) ∙ none.0)

  pub length_stays : (x : Row) → Has (db 4) x → IsOfNone tests params (db 0) x → Has (without_all (db 4) ids) x
  length_stays x there free = has_left ids (db 4) x there (λ id among. false_from_ne_true _ (λ hit. goes children id among hit))
    where
      goes : AreChildren mid (work_on olds) ids ⊎ ((is_due olds ≡ false) × (ids ≡ [])) → (id : ℤ) → Has ids id → has_rowid id x ≡ true → ⊥
      goes (inl c) id among hit =
          let g = child_of_gone mid olds ids c id among in
          let r = was_rule g.3 g.4 in
          let here : Has (db 4) g.0 = subst (λ l. Has l g.0) kept g.1 in
          let one : x ≡ g.0 = alone (db 4) lengths x g.0 there here (ap (value_cmp (rowid x)) g.2 ∙ equal_is _ hit) in
          let same : has_same_rowid g.0 r.0 ≡ true = sym (id_test g.0 r.0 _ _ g.2 (rule_id r.0 r.1)) ∙ ap (same_id g.0) (sym r.3) ∙ g.5 in
          true≢false (sym r.2 ∙ free r.0 r.1 (ap (λ (y : Row). has_same_rowid y r.0) one ∙ same))
      goes (inr none) id among hit = subst (λ l. Has l id) none.1 among

-- for any text that deletes from the table of rules
module _ (tables : List Table) (indexes : List Index) (views : List View) (others : AreOthers tables) (sql : List ℕ) (tests : List Term) (means : Means (schema_with tables indexes views) sql (deletion 0 0 tests)) where
  abbrev schema : Schema
  schema = schema_with tables indexes views

  pub deletes_rules : (old new : State) (params : Row) (count : ℕ) → old.now.schema ≡ schema → IsKeyed (old.now.trees 0) → IsKeyed (old.now.trees 4) → Executes sql params old new (Ok count) → DeletesRules tests params old.now new.now
  deletes_rules old new params count has keyed lengths ran =
      let db = old.now.trees in
      let w = wrote schema 0 rule_table refl sql (deletion 0 0 tests) means (λ _ _ _ _ _ runs. runs) (λ _ _ _ _ _ _ _ does. does) old new params count has ran in
      let given = went w.1 in
      let written = went given.2 in
      let trees : w.0.trees ≡ written.0 = ap (λ (it : Written). it.trees) (same_value written.2) in
      let now = w.2 ∙ ap (λ (t : Trees). record { schema = schema; trees = t }) trees in
      let done = cascades tables indexes views others db written.0 (ids_of given.0) written.1 in
      let mid = done.0 in
      let step = done.1 in
      let cascade = done.2 in
      let finds = finds_passing 0 tests (rowid_term ∷ []) _ params given.0 refl given.1 in
      let kept : mid 4 ≡ db 4 = step.tables.1.1.1.0 (λ e. absurd (cc)) in
      let rules : new.now.trees 0 ≡ without_all (db 0) (ids_of given.0) = ap (λ (d : Database). d.trees 0) now ∙ cascade.kept.0 (λ e. absurd (cc)) ∙ step.rows in
      let rows : new.now.trees 4 ≡ without_all (db 4) cascade.ids = ap (λ (d : Database). d.trees 4) now ∙ cascade.gone ∙ ap (λ rows. without_all rows cascade.ids) kept in
      record {
        only = record {
          schema = ap (λ (d : Database). d.schema) now ∙ sym has;
          others = λ other among not_rules not_lengths.
              let there = subst (λ (s : Schema). Has s.tables other) has among in
              ap (λ (d : Database). d.trees other.tree) now ∙ all_has _ schema.tables other cascade.kept there not_lengths ∙ all_has _ schema.tables other step.tables there not_rules;
        };
        sound = λ x stays. none_passes tests [] params (db 0) given.0 keyed finds x (subst (λ l. Has l x) rules stays);
        complete = λ x was fails. subst (λ l. Has l x) (sym rules) (others_stay tests [] params (db 0) given.0 keyed finds x was fails);
        keyed = subst IsKeyed (sym rules) (keyed-without_all (ids_of given.0) (db 0) keyed);
        lengths_sound = λ x stays. left_length tests params db mid given.0 keyed lengths finds kept cascade.ids cascade.children x (subst (λ l. Has l x) rows stays);
        lengths_complete = λ x was free. subst (λ l. Has l x) (sym rows) (length_stays tests params db mid given.0 keyed lengths finds kept cascade.ids cascade.children x was free);
        lengths_keyed = subst IsKeyed (sym rows) (keyed-without_all cascade.ids (db 4) lengths);
      }
