-- The place of a route in the order of listings.
use Rattle.std.proofs.Common.{◌≡◌, ◌⊎◌, inl, inr, ℕ, ◌<◌, ◌≤◌, Bool, true, false, List, length, get_or, sym, ap, ◌∙◌, arith}
use Rattle.std.specs.List.Sorted.{IsPartitionPoint, IsPartitionedBy}
use Rattle.std.proofs.lemmas.Bool.Decides.{nat_tests}
use Rattle.prt_addr.specs.Rising.{IsRising}
use Rattle.prt_addr.proofs.Orders.{not_itself, through}
use Rattle.prt_route.specs.Route.{is_listed_before}
use Rattle.prt_route.specs.declared.route.Route.{Route}
use Rattle.prt_route.proofs.Edits.{listing_order}
use Rattle.prt_analyses.proofs.Finds.{rising_at}

-- the route is listed before this one
abbrev pub IsBefore : Route → Route → Bool
IsBefore route other = is_listed_before other route

pub parted : (route : Route) (routes : List Route) → IsRising is_listed_before routes → IsPartitionedBy (IsBefore route) routes
parted route routes rises i j d upto inside after = by (cases i j upto)
  where
    cases : (i j : ℕ) → i ≤ j → (i < j) ⊎ (i ≡ j)
    cases i j upto = grind (arith, nat_tests)

    by : (i < j) ⊎ (i ≡ j) → is_listed_before (get_or routes i d) route ≡ true
    by (inl below) = through is_listed_before listing_order (get_or routes i d) (get_or routes j d) route (rising_at is_listed_before routes i j d rises below inside) after
    by (inr same) = ap (λ k. is_listed_before (get_or routes k d) route) same ∙ after

-- the first that isn't listed before the route is the route itself, if it is there
pub at_point : (route : Route) (routes : List Route) (place k : ℕ) → IsRising is_listed_before routes → IsPartitionPoint (λ y. IsBefore route y ≡ true) (λ y. IsBefore route y ≡ false) routes place → k < length routes → get_or routes k route ≡ route → place ≡ k
at_point route routes place k rises point inside is = by (ordered place k)
  where
    ordered : (i j : ℕ) → (i < j) ⊎ ((i ≡ j) ⊎ (j < i))
    ordered i j = grind (arith, nat_tests)

    by : (place < k) ⊎ ((place ≡ k) ⊎ (k < place)) → place ≡ k
    by (inl below) = absurd (let e : false ≡ true = sym (point.1 place route (omega arith) (omega arith)) ∙ ap (is_listed_before (get_or routes place route)) (sym is) ∙ rising_at is_listed_before routes place k route rises below inside in cc)
    by (inr (inl same)) = same
    by (inr (inr above)) = absurd (let e : false ≡ true = sym (not_itself is_listed_before listing_order route) ∙ ap (λ (r : Route). is_listed_before r route) (sym is) ∙ point.0 k route (omega arith) above in cc)
