-- What the statements that read a table answer.
use Rattle.std.proofs.Common.{◌≡◌, ℕ, suc, Bool, false, List, [], ◌∷◌, map, flat_map, IsPermutation, refl, sym, ap, subst, subst₂, ◌∙◌, arith, add-one}
use Rattle.std.proofs.lemmas.List.Sorted.{IsPermutation-map, IsPermutation-sym, length_permutation}
use Rattle.std.proofs.lemmas.List.{length-map, nil_from_length}
use Rattle.std.specs.List.{AllByRecursion, IsDistinct}
use Rattle.std.specs.List.Sorted.{IsSorted, IsSortedBy}
use Rattle.std.specs.Ordering.{is_lt}
use Rattle.std.specs.Prelude.{codes, true}
use Rattle.sqlite.proofs.Callers.{reads_as}
use Rattle.sqlite.specs.Effect.{Database, Answers}
use Rattle.sqlite.specs.Command.TheVariants.{Select}
use Rattle.sqlite.specs.Program.{overlay}
use Rattle.sqlite.specs.Query.{Output, Query, output, output_cmp}
use Rattle.sqlite.specs.Schema.{Schema}
use Rattle.sqlite.specs.State.{State, Shown}
use Rattle.sqlite.specs.Table.{Table}
use Rattle.sqlite.specs.Term.{Env, Term}
use Rattle.sqlite.specs.Tree.{rowid}
use Rattle.sqlite.specs.View.{is_int}
use Rattle.sqlite.specs.declared.types.Value.TheVariants.{Null}
use Rattle.sqlite_rules.proofs.ListLemmas.{all_from, all_has}
use Rattle.sqlite_rules.proofs.ProbeLemmas.{has_mapped, mapped_has}
use Rattle.sqlite_schema.specs.declared.schema.Index.{Index}
use Rattle.sqlite_schema.specs.declared.schema.View.{View}
use Rattle.sqlite_trees.proofs.ListLemmas.{all-permutation}
use Rattle.sqlite_value.proofs.OrderLemmas.{then-Equal}
use Rattle.sqlite_value.specs.Order.{Row, column, value_cmp}
use Rattle.prt_addr.specs.Word.{Word}
use Rattle.prt_rows.proofs.Found.{has_permuted, projection}
use Rattle.prt_rows.proofs.Keyed.{keyed-permutation}
use Rattle.prt_rows.proofs.Rising.{NeverFall, keyed_if_rising, rises_if_keyed}
use Rattle.prt_rows.proofs.Texts.{Asks, read_meta_is, read_routes_is, read_rules_is, read_suppress_is}
use Rattle.prt_rows.specs.Effects.{IsKeyed, has_same_rowid}
use Rattle.prt_rows.specs.Meanings.{listing, names_of, read_meta_terms, read_route_terms, read_rule_terms, read_suppress_terms, rowid_term}
use Rattle.prt_rows.specs.MetaRow.{meta_columns}
use Rattle.prt_rows.specs.RouteRow.{route_columns}
use Rattle.prt_rows.specs.Rowids.{rowids_rise}
use Rattle.prt_rows.specs.RuleRow.{rule_columns}
use Rattle.prt_rows.specs.SuppressRow.{suppress_columns}
use Rattle.prt_rows.specs.Statements.{read_meta, read_routes, read_rules, read_suppress}
use Rattle.prt_rows.specs.Tables.{schema_with}

-- SELECT of the rowid and of these terms, in the order of the rowids
module _ (tree : ℕ) (terms : List Term) where
  abbrev shows : List Term
  shows = rowid_term ∷ terms

  abbrev query : Query
  query = (listing tree terms).body

  -- what is shown of each of these rows is read, and no rowid is below the one before it
  pub record Lists (table rows : List Row) : Type 0 where
    pub same : IsPermutation (map (projection shows []) table) rows
    pub never_falls : NeverFall rows

  all_shown : (rows : List Row) → map (λ (o : Output). o.1) (map (output query) (flat_map (λ row. ([] ∷ row ∷ []) ∷ []) rows)) ≡ map (projection shows []) rows
  all_shown [] = refl
  all_shown (row ∷ rows) = ap (λ rest. projection shows [] row ∷ rest) (all_shown rows)

  -- an output is ordered by the rowid that it shows
  abbrev ShowsKey : Output → Type 0
  ShowsKey o = column o.0 0 ≡ rowid o.1

  keys_shown : (envs : List Env) → AllByRecursion ShowsKey (map (output query) envs)
  keys_shown [] = tt
  keys_shown (env ∷ envs) = (refl, keys_shown envs)

  sorted_tail : {X : Type 0} (lt : X → X → Bool) (x : X) (xs : List X) → IsSortedBy lt (x ∷ xs) → IsSortedBy lt xs
  sorted_tail lt x xs sorted k d low high = simp add-one (simp add-one at sorted (suc k) d (omega arith) (omega arith))

  never_falls : (outputs : List Output) → AllByRecursion ShowsKey outputs → IsSorted (output_cmp query) outputs → NeverFall (map (λ (o : Output). o.1) outputs)
  never_falls [] keys sorted = tt
  never_falls (o ∷ []) keys sorted = (tt, tt)
  never_falls (o ∷ (p ∷ outputs)) keys sorted = (
    (λ i. is_lt (value_cmp (sym keys.1.0 i) (sym keys.0 i))) ∙ ap is_lt (sym (then-Equal (value_cmp (column p.0 0) (column o.0 0)))) ∙ sorted 0 o (omega arith) (omega arith),
    never_falls (p ∷ outputs) keys.1 (sorted_tail (λ a b. is_lt (output_cmp query a b)) o (p ∷ outputs) sorted),
  )

  pub lists_all : (db : Database) (rows : List Row) → overlay db.trees [] tree ≡ db.trees tree → Answers db (listing tree terms) [] rows → Lists (db.trees tree) rows
  lists_all db rows is answers =
      let a = answers.answer Null in
      let same = IsPermutation-map (λ (o : Output). o.1) a.kept a.ordered a.same in
      let staged = a.distinct ∙ ap (map (output query)) a.grouped in
      let keys = all-permutation ShowsKey a.kept a.ordered a.same (subst (AllByRecursion ShowsKey) (sym staged) (keys_shown (flat_map (λ row. ([] ∷ row ∷ []) ∷ []) (overlay db.trees [] tree)))) in
      record {
        same = subst₂ IsPermutation (ap (map (λ (o : Output). o.1)) staged ∙ all_shown (overlay db.trees [] tree) ∙ ap (map (projection shows [])) is) (sym a.shown) same;
        never_falls = subst NeverFall (sym a.shown) (never_falls a.ordered keys a.sorted);
      }

  -- ---- the table has the rowids that are read

  once_shown : (table : List Row) → IsDistinct has_same_rowid table → IsDistinct has_same_rowid (map (projection shows []) table)
  unfolding IsDistinct
  once_shown [] once = tt
  once_shown (x ∷ table) once = (
    all_from (λ y. has_same_rowid x y ≡ false) (map (projection shows []) table) (λ y there.
        let m = has_mapped (projection shows []) table y there in
        ap (has_same_rowid x) m.2 ∙ all_has (λ y. has_same_rowid x y ≡ false) table m.0 once.0 m.1),
    once_shown table once.1,
  )

  once_if_shown : (table : List Row) → IsDistinct has_same_rowid (map (projection shows []) table) → IsDistinct has_same_rowid table
  unfolding IsDistinct
  once_if_shown [] once = tt
  once_if_shown (x ∷ table) once = (
    all_from (λ y. has_same_rowid x y ≡ false) table (λ y there. all_has (λ y. has_same_rowid x y ≡ false) (map (projection shows []) table) (projection shows [] y) once.0 (mapped_has (projection shows []) table y there)),
    once_if_shown table once.1,
  )

  module _ (table rows : List Row) (lists : Lists table rows) where
    -- rowids that rise as they are read name one row of the table each
    pub keyed_if_read_rising : rowids_rise rows ≡ true → IsKeyed table
    keyed_if_read_rising rise =
        let back = IsPermutation-sym _ rows lists.same in
        let shown = keyed-permutation rows (map (projection shows []) table) back (λ x there. has_permuted rows _ x back there) (keyed_if_rising rows rise) in
        record { ints = λ x there. shown.ints (projection shows [] x) (mapped_has (projection shows []) table x there); once = once_if_shown table shown.once }

    -- and if each names one row of the table, they rise
    pub read_rising_if_keyed : IsKeyed table → rowids_rise rows ≡ true
    read_rising_if_keyed keyed =
        let shown : IsKeyed (map (projection shows []) table) = record {
          ints = λ x there. let m = has_mapped (projection shows []) table x there in ap (λ r. is_int (rowid r)) m.2 ∙ keyed.ints m.0 m.1;
          once = once_shown table keyed.once;
        } in
        rises_if_keyed rows lists.never_falls (keyed-permutation _ rows lists.same (λ x there. has_permuted _ rows x lists.same there) shown)

  -- ---- a table without rows

  pub empty_if_none_read : (table : List Row) → Lists table [] → table ≡ []
  empty_if_none_read table lists = nil_from_length table (sym (length-map table (projection shows [])) ∙ sym (length_permutation (map (projection shows []) table) [] lists.same))

  pub none_read_if_empty : (rows : List Row) → Lists [] rows → rows ≡ []
  none_read_if_empty rows lists = nil_from_length rows (length_permutation [] rows lists.same)

module _ (sql : Word) (tree : ℕ) (terms : List Term) (names : List Word) (schema : Schema) (asks : Asks schema sql (Select (listing tree terms) names)) where
  listed : (old new : State) → old.now.schema ≡ schema → (rows : List Row) → overlay old.now.trees [] tree ≡ old.now.trees tree → Shown sql [] old new rows → Lists tree terms (old.now.trees tree) rows
  listed old new has rows is ran = lists_all tree terms old.now rows is (reads_as sql [] old new schema has _ asks.0 asks.1 asks.2 rows ran)

module _ (tables : List Table) (indexes : List Index) (views : List View) (old new : State) (has : old.now.schema ≡ schema_with tables indexes views) (rows : List Row) where
  pub reads_rules : Shown read_rules [] old new rows → Lists 0 read_rule_terms (old.now.trees 0) rows
  reads_rules = listed read_rules 0 read_rule_terms (names_of rule_columns) _ (read_rules_is tables indexes views) old new has rows refl

  pub reads_routes : Shown read_routes [] old new rows → Lists 1 read_route_terms (old.now.trees 1) rows
  reads_routes = listed read_routes 1 read_route_terms (codes "rowid" ∷ names_of route_columns) _ (read_routes_is tables indexes views) old new has rows refl

  pub reads_meta : Shown read_meta [] old new rows → Lists 3 read_meta_terms (old.now.trees 3) rows
  reads_meta = listed read_meta 3 read_meta_terms (names_of meta_columns) _ (read_meta_is tables indexes views) old new has rows refl

  pub reads_suppress : Shown read_suppress [] old new rows → Lists 4 read_suppress_terms (old.now.trees 4) rows
  reads_suppress = listed read_suppress 4 read_suppress_terms (names_of suppress_columns) _ (read_suppress_is tables indexes views) old new has rows refl
