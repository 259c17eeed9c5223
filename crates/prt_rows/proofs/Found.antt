-- The rows that a query finds, and those that are left without them.
use Rattle.std.proofs.Common.{◌≡◌, inl, inr, ℕ, ℤ, Bool, true, false, not, cond, List, [], ◌∷◌, ◌++◌, map, filter, flat_map, IsPermutation, refl, sym, ap, subst, ◌∙◌}
use Rattle.std.proofs.lemmas.Bool.{not-true}
use Rattle.std.proofs.lemmas.List.Sorted.{IsPermutation-map, IsPermutation-sym}
use Rattle.std.specs.List.{list_all}
use Rattle.sqlite.specs.Edit.{without_all}
use Rattle.sqlite.specs.Effect.{Database, Answers}
use Rattle.sqlite.specs.Program.{overlay}
use Rattle.sqlite.specs.Query.{Output, output}
use Rattle.sqlite.specs.Term.{Term, eval_all, holds}
use Rattle.sqlite.specs.Tree.{has_rowid, without_rowid}
use Rattle.sqlite.specs.declared.types.Value.TheVariants.{Null}
use Rattle.sqlite_rules.proofs.ListLemmas.{all_has, all_from, has_filtered, has_kept}
use Rattle.sqlite_rules.proofs.ProbeLemmas.{has_mapped, mapped_has}
use Rattle.sqlite_rules.specs.Lists.{Has}
use Rattle.sqlite_trees.proofs.ListLemmas.{all-permutation}
use Rattle.sqlite_value.specs.Order.{Row}
use Rattle.prt_rows.specs.Effects.{passes}
use Rattle.prt_rows.specs.Meanings.{over_tree, program}

-- what is shown of a row
abbrev pub projection : List Term → Row → Row → Row
projection shows params row = eval_all shows (params ∷ row ∷ [])

-- what is found is what the rows that pass show, and nothing else
pub record Finds (tests shows : List Term) (rows : List Row) (params : Row) (found : List Row) : Type 0 where
  pub sound : (x : Row) → Has found x → (row : Row) × Has rows row × (passes tests params row ≡ true) × (x ≡ projection shows params row)
  pub complete : (row : Row) → Has rows row → passes tests params row ≡ true → Has found (projection shows params row)

pub has_permuted : {X : Type 0} (xs ys : List X) (x : X) → IsPermutation xs ys → Has ys x → Has xs x
has_permuted xs ys x same = all_has (Has xs) ys x (all-permutation (Has xs) xs ys same (all_from (Has xs) xs (λ e there. there)))

-- the environments of the rows that pass
abbrev kept_rows : List Term → Row → List Row → List (List Row)
kept_rows tests params rows = flat_map (λ row. cond (list_all (holds (params ∷ row ∷ [])) tests) ((params ∷ row ∷ []) ∷ []) []) rows

shown_rows : (tree : ℕ) (tests shows : List Term) (params : Row) (rows : List Row)
    → map (λ (o : Output). o.1) (map (output (over_tree tree tests shows)) (kept_rows tests params rows)) ≡ map (projection shows params) (filter (passes tests params) rows)
shown_rows tree tests shows params [] = refl
shown_rows tree tests shows params (row ∷ rows) = go (passes tests params row) (shown_rows tree tests shows params rows)
  where
    go : (b : Bool) → map (λ (o : Output). o.1) (map (output (over_tree tree tests shows)) (kept_rows tests params rows)) ≡ map (projection shows params) (filter (passes tests params) rows)
        → map (λ (o : Output). o.1) (map (output (over_tree tree tests shows)) (cond b ((params ∷ row ∷ []) ∷ []) [] ++ kept_rows tests params rows))
        ≡ map (projection shows params) (cond b (row ∷ filter (passes tests params) rows) (filter (passes tests params) rows))
    go true later = ap (λ rest. projection shows params row ∷ rest) later
    go false later = later

pub finds_passing : (tree : ℕ) (tests shows : List Term) (db : Database) (params : Row) (found : List Row) → overlay db.trees [] tree ≡ db.trees tree → Answers db (program tree tests shows) params found
    → Finds tests shows (db.trees tree) params found
finds_passing tree tests shows db params found is answers =
    let a = answers.answer Null in
    let query = over_tree tree tests shows in
    let kept : map (λ (o : Output). o.1) a.kept ≡ map (projection shows params) (filter (passes tests params) (db.trees tree)) =
    ap (map (λ (o : Output). o.1)) (a.distinct ∙ ap (map (output query)) a.grouped) ∙ shown_rows tree tests shows params (overlay db.trees [] tree)
    ∙ ap (λ rows. map (projection shows params) (filter (passes tests params) rows)) is in
    let same : IsPermutation (map (projection shows params) (filter (passes tests params) (db.trees tree))) found =
    subst (λ l. IsPermutation l found) kept (subst (IsPermutation (map (λ (o : Output). o.1) a.kept)) (sym a.shown) (IsPermutation-map (λ (o : Output). o.1) a.kept a.ordered a.same)) in
    record {
      sound = λ x there.
          let m = has_mapped (projection shows params) _ x (has_permuted _ found x same there) in
          let k = has_filtered (passes tests params) (db.trees tree) m.0 m.1 in
          (m.0, k.0, k.1, m.2);
      complete = λ row there pass.
          has_permuted found _ (projection shows params row) (IsPermutation-sym _ _ same) (mapped_has (projection shows params) _ row (has_kept (passes tests params) (db.trees tree) row there pass));
    }

-- a row that is left was there, and has none of the rowids
pub left_has : (ids : List ℤ) (rows : List Row) (x : Row) → Has (without_all rows ids) x → Has rows x × ((id : ℤ) → Has ids id → has_rowid id x ≡ false)
left_has [] rows x there = (there, λ id none. absurd none)
left_has (i ∷ ids) rows x there =
    let rest = left_has ids (without_rowid i rows) x there in
    let kept = has_filtered (λ row. not (has_rowid i row)) rows x rest.0 in
    (kept.0, λ id among. elim among [ inl is ↦ ap (λ n. has_rowid n x) is ∙ not-true _ kept.1 | inr later ↦ rest.1 id later ])

-- and such a row is left
pub has_left : (ids : List ℤ) (rows : List Row) (x : Row) → Has rows x → ((id : ℤ) → Has ids id → has_rowid id x ≡ false) → Has (without_all rows ids) x
has_left [] rows x there free = there
has_left (i ∷ ids) rows x there free =
    has_left ids (without_rowid i rows) x (has_kept (λ row. not (has_rowid i row)) rows x there (ap not (free i (inl refl)))) (λ id later. free id (inr later))
