-- The row at the place of the heaviest is the best of all rows.
use Rattle.std.proofs.Common.{◌≡◌, ℕ, zero, suc, ◌+◌, ◌*◌, ◌-◌, ◌^◌, ◌<◌, ◌≤◌, List, [], ◌∷◌, length, get_or, Bool, true, false, ◌&&◌, ◌||◌, cond, ltb, eqb, eq-eqb, arith, Some, refl, ap, subst, sym, ◌∙◌, ⊎_elim}
use Rattle.std.specs.List.{All, filter, find, list_any, slice_get}
use Rattle.std.proofs.lemmas.Bool.{cases_Bool, cases_lt, cases_eq}
use Rattle.std.proofs.lemmas.Bool.Decides.{nat_tests}
use Rattle.prt_addr.proofs.Orders.{is_first}
use Rattle.prt_addr.specs.Sound.{IsPrefix}
use Rattle.prt_addr.specs.Order.{first_by}
use Rattle.prt_addr.specs.Prefix.{contains}
use Rattle.prt_route.specs.Best.{best, is_candidate}
use Rattle.prt_addr.specs.declared.addr.Addr.{Addr}
use Rattle.prt_route.specs.Route.{is_better}
use Rattle.prt_route.specs.declared.route.Route.{Route}
use Rattle.prt_trie.specs.Directory.{IsDirectory}
use Rattle.prt_trie.specs.Heaviest.{IsBest, best_for, nowhere, weight}
use Rattle.prt_trie.specs.Spans.{AreSpans}
use Rattle.prt_trie.specs.Sweep.{AreDone}
use Rattle.prt_trie.specs.Index.{IsIndex}
use Rattle.prt_trie.specs.Table.{IsOfOneTable, IsRising, IsTable}
use Rattle.prt_trie.specs.declared.index.Index.{Index}
use Rattle.prt_trie.specs.declared.span.Span.{Span}

-- the first that passes is at p
pub find_at : {X : Type 0} (q : X → Bool) (xs : List X) (p : ℕ) → ((k : ℕ) (d : X) → k < p → k < length xs → q (get_or xs k d) ≡ false) → ((d : X) → p < length xs → q (get_or xs p d) ≡ true) → find q xs ≡ slice_get xs p
find_at q [] p before at = refl
find_at q (x ∷ xs) zero before at = rw (at x (omega arith)) refl
find_at q (x ∷ xs) (suc p) before at =
    rw (before zero x (omega arith) (omega arith)) (find_at q xs p (λ k d l h. before (suc k) d (omega arith) (omega arith)) (λ d l. at d (omega arith)))

pub find-filter : {X : Type 0} (q c : X → Bool) (xs : List X) → find q (filter c xs) ≡ find (λ x. c x && q x) xs
find-filter q c [] = refl
find-filter q c (x ∷ xs) =
    ⊎_elim (λ (e : c x ≡ true). rw e (ap (λ r. cond (q x) (Some x) r) (find-filter q c xs))) (λ (e : c x ≡ false). rw e (find-filter q c xs)) (cases_Bool (c x))

pub none_passes : {X : Type 0} (p c : X → Bool) (xs : List X) (d : X) → ((k : ℕ) → k < length xs → c (get_or xs k d) ≡ true → p (get_or xs k d) ≡ false) → list_any p (filter c xs) ≡ false
none_passes p c [] d none = refl
none_passes p c (x ∷ xs) d none =
    let rest : list_any p (filter c xs) ≡ false = none_passes p c xs d (λ k l h. none (suc k) (omega arith) h) in
    ⊎_elim (λ (e : c x ≡ true). rw (e, none zero (omega arith) e) rest) (λ (e : c x ≡ false). rw e rest) (cases_Bool (c x))

pub one_passes : {X : Type 0} (p c : X → Bool) (xs : List X) (k : ℕ) (d : X) → k < length xs → c (get_or xs k d) ≡ true → p (get_or xs k d) ≡ true → list_any p (filter c xs) ≡ true
one_passes p c [] k d l hc hp = absurd (omega arith)
one_passes p c (x ∷ xs) zero d l hc hp = rw (hc, hp) refl
one_passes p c (x ∷ xs) (suc k) d l hc hp =
    let rest : list_any p (filter c xs) ≡ true = one_passes p c xs k d (omega arith) hc hp in
    ⊎_elim (λ (e : c x ≡ true). ⊎_elim (λ (t : p x ≡ true). rw (e, t) refl) (λ (f : p x ≡ false). rw (e, f) rest) (cases_Bool (p x))) (λ (e : c x ≡ false). rw e rest) (cases_Bool (c x))

not_better : (l k m n : ℕ) → m < 4294967296 → n < 4294967296 → l * 4294967296 + (4294967295 - m) ≤ k * 4294967296 + (4294967295 - n) → (ltb k l || (eqb l k && ltb m n)) ≡ false
not_better l k m n hm hn h =
    ⊎_elim (λ (lt : k < l). absurd (omega arith))
    (λ (ge : l ≤ k). ⊎_elim (λ (e : l ≡ k). let mn : n ≤ m = omega arith in grind (arith, nat_tests)) (λ (ne : l ≡ k → ⊥). grind (arith, nat_tests)) (cases_eq l k))
    (cases_lt k l)

better : (l k m n : ℕ) → m < 4294967296 → n < 4294967296 → k * 4294967296 + (4294967295 - n) < l * 4294967296 + (4294967295 - m) → (ltb k l || (eqb l k && ltb m n)) ≡ true
better l k m n hm hn h =
    ⊎_elim (λ (lt : k < l). grind (arith, nat_tests))
    (λ (ge : l ≤ k). let e : l ≡ k = omega arith in let mn : m < n = omega arith in grind (arith, nat_tests))
    (cases_lt k l)

-- the first of the best places has the best row
pub best_row : (rows : List Route) (a p : ℕ) → length rows ≤ nowhere → All (λ row. row.metric < 2 ^ 32) rows → IsBest rows (length rows) a p → slice_get rows p ≡ best_for rows (record { 0 = a })
best_row rows a p few metrics best =
    let c : Route → Bool = λ row. contains row.prefix (record { 0 = a }) in
    let u : Route → Bool = is_first is_better (filter c rows) in
    sym (find-filter u c rows ∙ find_at (λ x. c x && u x) rows p
    (λ k d lt l. ⊎_elim
    (λ (e : c (get_or rows k d) ≡ true).
    let b : (0 ≤ p) × (p < length rows) × (weight (get_or rows k d) ≤ weight (get_or rows p d)) × (k < p → weight (get_or rows k d) < weight (get_or rows p d)) = (best d).unbeaten k (omega arith) l e in
    let ep : c (get_or rows p d) ≡ true = ⊎_elim (λ (en : p ≡ nowhere). absurd (omega arith)) (λ ((f, t, h) : (0 ≤ p) × (p < length rows) × (c (get_or rows p d) ≡ true)). h) (best d).stands in
    let beats : is_better (get_or rows p d) (get_or rows k d) ≡ true = better (get_or rows p d).prefix.len (get_or rows k d).prefix.len (get_or rows p d).metric (get_or rows k d).metric (metrics p d b.1) (metrics k d l) (b.3 lt) in
    rw (e, one_passes (λ o. is_better o (get_or rows k d)) c rows p d b.1 ep beats) refl)
    (λ (e : c (get_or rows k d) ≡ false). rw e refl)
    (cases_Bool (c (get_or rows k d))))
    (λ d l.
    let ep : c (get_or rows p d) ≡ true = ⊎_elim (λ (en : p ≡ nowhere). absurd (omega arith)) (λ ((f, t, h) : (0 ≤ p) × (p < length rows) × (c (get_or rows p d) ≡ true)). h) (best d).stands in
    rw (
      ep,
      none_passes (λ o. is_better o (get_or rows p d)) c rows d (λ k lk e.
          not_better (get_or rows k d).prefix.len (get_or rows p d).prefix.len (get_or rows k d).metric (get_or rows p d).metric (metrics k d lk) (metrics p d l) ((best d).unbeaten k (omega arith) lk e).2),
    ) refl))

filter_within : {X : Type 0} (c e : X → Bool) (xs : List X) → ((k : ℕ) (d : X) → k < length xs → c (get_or xs k d) ≡ e (get_or xs k d)) → filter c xs ≡ filter e xs
filter_within c e [] same = refl
filter_within c e (x ∷ xs) same =
    rw (same zero x (omega arith), filter_within c e xs (λ k d l. same (suc k) d (omega arith))) refl

-- if all rows are of one table, its best row is the best of all
pub best_of_table : (rows : List Route) (table : ℕ) (addr : Addr) → All (λ row. row.table ≡ table) rows → best rows table addr ≡ best_for rows addr
best_of_table rows table addr all =
    ap (λ (cs : List Route). first_by is_better cs) (filter_within (is_candidate table addr) (λ row. contains row.prefix addr) rows
    (λ k d l. let e : (get_or rows k d).table ≡ table = all k d l in let t : eqb (get_or rows k d).table table ≡ true = eq-eqb (get_or rows k d).table table e in rw t refl))

pub are_spans_of : (rows : List Route) (spans : List Span) → AreDone rows spans (2 ^ 32) → AreSpans spans
are_spans_of rows [] done = let d : Span = record { first = 0; row = 0 } in absurd (let b : (0 < 0) × (d.first ≡ 0) = done.begin d (omega arith) in omega arith)
are_spans_of rows (span ∷ spans) done = record { some = omega arith; begin = λ d. (done.begin d (omega arith)).1; rise = done.rise }

-- spans that are right for all addresses are an index
pub index_of : (rows : List Route) (index : Index) → IsTable rows → length rows ≤ nowhere → AreDone rows index.spans.items (2 ^ 32) → index.slots.shift < 32 → IsDirectory index.spans.items index.slots index.starts.items → IsIndex rows index
index_of rows index table fits done shift directory = record {
  table = table;
  fits = fits;
  are_spans = are_spans_of rows index.spans.items done;
  shift = shift;
  directory = directory;
  agrees = λ a place d below is. best_row rows a (get_or index.spans.items place d).row fits table.metrics (done.best a place d below is);
}

pub table_from : (given rows : List Route) → given ≡ rows → IsOfOneTable rows → IsRising rows → All (λ row. IsPrefix row.prefix) given → All (λ row. row.metric < 2 ^ 32) given → IsTable given
table_from given rows same one rises prefixes metrics = record { one_table = subst IsOfOneTable (sym same) one; rising = subst IsRising (sym same) rises; prefixes = prefixes; metrics = metrics }
