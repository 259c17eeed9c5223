-- The best in a list, and the candidates of a lookup.
use Rattle.std.proofs.Common.{◌≡◌, ℕ, zero, suc, ◌<◌, Bool, true, false, not, ◌&&◌, eqb, List, [], ◌∷◌, Option, Some, None, refl, sym, ap, ◌∙◌, arith, length, get_or, find, ⊎_elim}
use Rattle.std.specs.Prelude.{filter, option_map}
use Rattle.std.specs.List.{IsFirstBest, list_any}
use Rattle.std.proofs.lemmas.Bool.{cases_Bool}
use Rattle.std.proofs.lemmas.Bool.Decides.{nat_tests}
use Rattle.std.proofs.lemmas.List.Elements.{recursion_from_All}
use Rattle.std.proofs.lemmas.List.{get_or_default}
use Rattle.std.proofs.lemmas.List.Folds.{list_any_at}
use Rattle.prt_addr.specs.Order.{first_by}
use Rattle.prt_addr.specs.Prefix.{contains}
use Rattle.prt_addr.specs.declared.addr.Addr.{Addr}
use Rattle.prt_addr.proofs.Each.{any_none}
use Rattle.prt_route.specs.Best.{best, candidates, is_candidate}
use Rattle.prt_route.specs.Route.{is_better}
use Rattle.prt_route.specs.RouteChoice.{is_selected}
use Rattle.prt_route.specs.declared.choice.Range.TheVariants.{All}
use Rattle.prt_route.specs.declared.choice.Selector.{Selector}
use Rattle.prt_route.specs.declared.route.Route.{Route}
use Rattle.prt_explain.specs.Explanation.{runner_up}
use Rattle.prt_explain.specs.Steps.{found}

-- ---- the first by an order

-- the first that passes is at b
finds_at : {X : Type 0} (p : X → Bool) (xs : List X) (b : ℕ) (d : X) → b < length xs → p (get_or xs b d) ≡ true → ((k : ℕ) → k < b → p (get_or xs k d) ≡ false) → find p xs ≡ Some (get_or xs b d)
finds_at p [] b d within passes others = absurd (omega arith)
finds_at p (x ∷ xs) zero d within passes others = simp passes refl
finds_at p (x ∷ xs) (suc b) d within passes others =
    let fails : p x ≡ false = others 0 (omega arith) in
    simp fails (finds_at p xs b d (omega arith) passes (λ k below. others (suc k) (omega arith)))

-- the one that none comes before, and that comes before each ahead of it
pub first_at : {X : Type 0} (before : X → X → Bool) (xs : List X) (b : ℕ) (d : X) → IsFirstBest before xs (length xs) b → first_by before xs ≡ Some (get_or xs b d)
first_at before xs b d leads =
    finds_at (λ x. not (list_any (λ other. before other x) xs)) xs b d leads.0
    (ap not (any_none (λ other. before other (get_or xs b d)) xs (recursion_from_All (λ other. before other (get_or xs b d) ≡ false) xs (λ k e within. ap (λ x. before x (get_or xs b d)) (get_or_default xs k e d within) ∙ leads.1 k d within))))
    (λ k below. ap not (list_any_at (λ other. before other (get_or xs k d)) xs b d leads.0 (leads.2 k d below)))

-- ---- candidates

-- those that pass two tests
pub filter_both : {X : Type 0} (p q both : X → Bool) → ((x : X) → both x ≡ (q x && p x)) → (xs : List X) → filter p (filter q xs) ≡ filter both xs
filter_both p q both same [] = refl
filter_both p q both same (x ∷ xs) =
    let rest : filter p (filter q xs) ≡ filter both xs = filter_both p q both same xs in
    let here : both x ≡ (q x && p x) = same x in
    ⊎_elim
    (λ (yes : q x ≡ true). rw (here, yes, rest) refl)
    (λ (no : q x ≡ false). rw (here, no, rest) refl)
    (cases_Bool (q x))

-- every route of a table
abbrev all_of_table : ℕ → Selector
all_of_table table = record { table = Some table; range = All; kind = None; proto = None; scope = None; dev = None }

same_either_way : (a b : ℕ) → eqb a b ≡ eqb b a
same_either_way a b = grind (arith, nat_tests)

with_nothing_else : (first last : Bool) → (first && last) ≡ ((first && true && true && true && true && true) && last)
with_nothing_else true last = refl
with_nothing_else false last = refl

-- those that the selector of a table takes and that contain the address
pub candidates_of : (routes : List Route) (table : ℕ) (addr : Addr) → filter (λ route. contains route.prefix addr) (filter (is_selected (all_of_table table)) routes) ≡ candidates routes table addr
candidates_of routes table addr =
    filter_both (λ route. contains route.prefix addr) (is_selected (all_of_table table)) (is_candidate table addr) (λ route. ap (λ first. first && contains route.prefix addr) (same_either_way route.table table) ∙ with_nothing_else (eqb table route.table) (contains route.prefix addr)) routes

-- the best of the candidates, and the best of those that it is better than
pub found_by : (routes : List Route) (table : ℕ) (addr : Addr) (route : Route) (other : Option Route) (all worse : List Route) → all ≡ candidates routes table addr → first_by is_better all ≡ Some route → worse ≡ filter (is_better route) all → other ≡ first_by is_better worse → Some (record { best = route; runner_up = other }) ≡ found routes table addr
found_by routes table addr route other all worse are is left next =
    let best_is : best routes table addr ≡ Some route = ap (first_by is_better) (sym are) ∙ is in
    let next_is : other ≡ runner_up route routes table addr = next ∙ ap (first_by is_better) (left ∙ ap (filter (is_better route)) are) in
    ap (λ o. Some (record { best = route; runner_up = o })) next_is
    ∙ ap (option_map (λ r. record { best = r; runner_up = runner_up r routes table addr })) (sym best_is)
