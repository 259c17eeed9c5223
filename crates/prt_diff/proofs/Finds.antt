-- Routes are looked up by their keys in the order of listings.
use Rattle.std.proofs.Common.{◌≡◌, ◌⊎◌, inl, inr, ℕ, ◌<◌, ◌≤◌, Bool, true, false, not, ◌||◌, ◌&&◌, List, [], ◌∷◌, Option, Some, None, length, get_or, refl, sym, ap, ◌∙◌, arith, cond, find, is_some}
use Rattle.std.specs.Prelude.{filter, ◌==◌}
use Rattle.std.specs.List.{list_any, AllByRecursion as Each}
use Rattle.std.specs.List.Sorted.{IsPartitionPoint, IsPartitionedBy}
use Rattle.std.proofs.lemmas.Bool.Decides.{nat_tests}
use Rattle.std.proofs.lemmas.List.Elements.{recursion_from_All}
use Rattle.prt_addr.specs.Prefix.{is_same_prefix}
use Rattle.prt_addr.specs.Rising.{IsRising}
use Rattle.prt_addr.proofs.Each.{any_none, each_filtered, each_implies}
use Rattle.prt_addr.proofs.Orders.{through}
use Rattle.prt_route.specs.Edit.{has_key}
use Rattle.prt_route.specs.Route.{is_listed_before, is_same_key, key_of}
use Rattle.prt_route.specs.declared.route.Route.{Route}
use Rattle.prt_route.specs.declared.route.RouteKey.{RouteKey}
use Rattle.prt_route.proofs.Edits.{listing_order}
use Rattle.prt_trie.specs.Table.{has_same_key}
use Rattle.prt_trie.proofs.Order.{rises_far}
use Rattle.prt_version.proofs.RowOrder.{key_differs, keys_both_ways}
use Rattle.prt_diff.specs.Routes.{agrees, has_agreeing, is_kept, kept_routes, managed_routes, missing_routes, unwanted_routes, wanted_routes}
use Rattle.prt_diff.specs.Serving.{has_serving, serves}
use Rattle.prt_diff.specs.declared.fence.Fence.{Fence}
use Rattle.prt_diff.proofs.Members.{IsIn, contains_in, differ, each_in, filtered_twice}

-- ---- the place where the search ends

-- the route is listed before this one
abbrev pub IsBefore : Route → Route → Bool
IsBefore route other = is_listed_before other route

not_after : (route a b : Route) → is_listed_before a b ≡ true → is_listed_before b route ≡ true → is_listed_before a route ≡ true
not_after route a b first second = through is_listed_before listing_order a b route first second

pub parted : (route : Route) (routes : List Route) → IsRising is_listed_before routes → IsPartitionedBy (IsBefore route) routes
parted route routes rises i j d upto inside after =
    by (cases i j upto)
  where
    cases : (i j : ℕ) → i ≤ j → (i < j) ⊎ (i ≡ j)
    cases i j upto = grind (arith, nat_tests)

    by : (i < j) ⊎ (i ≡ j) → is_listed_before (get_or routes i d) route ≡ true
    by (inl below) = not_after route (get_or routes i d) (get_or routes j d) (rises_far routes i j d rises below inside) after
    by (inr same) = ap (λ k. is_listed_before (get_or routes k d) route) same ∙ after

same_place : (route a b : Route) → is_listed_before a b ≡ true → has_same_key b route ≡ true → is_listed_before a route ≡ true
same_place route a b ahead same = grind (arith, nat_tests, ahead, same)

-- no route has the key, if the one at that place hasn't
pub none_has_key : (route : Route) (routes : List Route) (place : ℕ) → IsRising is_listed_before routes → IsPartitionPoint (λ y. IsBefore route y ≡ true) (λ y. IsBefore route y ≡ false) routes place → ((d : Route) → place < length routes → has_same_key (get_or routes place d) route ≡ false) → Each (λ other. has_same_key other route ≡ false) routes
none_has_key route routes place rises point here = recursion_from_All (λ other. has_same_key other route ≡ false) routes at
  where
    cases : (k n : ℕ) → (k < n) ⊎ ((k ≡ n) ⊎ (n < k))
    cases k n = grind (arith, nat_tests)

    later : (k : ℕ) (d : Route) → k < length routes → place < k → (b : Bool) → has_same_key (get_or routes k d) route ≡ b → b ≡ false
    later k d inside after false is = refl
    later k d inside after true is = differ (sym (same_place route (get_or routes place d) (get_or routes k d) (rises_far routes place k d rises after inside) is) ∙ point.1 place d (omega arith) (omega arith))

    by : (k : ℕ) (d : Route) → k < length routes → (k < place) ⊎ ((k ≡ place) ⊎ (place < k)) → has_same_key (get_or routes k d) route ≡ false
    by k d inside (inl before) = key_differs (get_or routes k d) route (point.0 k d (omega arith) before)
    by k d inside (inr (inl same)) = ap (λ n. has_same_key (get_or routes n d) route) same ∙ here d (omega arith)
    by k d inside (inr (inr after)) = later k d inside after (has_same_key (get_or routes k d) route) refl

    at : (k : ℕ) (d : Route) → k < length routes → has_same_key (get_or routes k d) route ≡ false
    at k d inside = by k d inside (cases k place)

-- ---- what is found

pub finds_none : {X : Type 0} (p : X → Bool) (xs : List X) → Each (λ x. p x ≡ false) xs → find p xs ≡ None
finds_none p [] h = refl
finds_none p (x ∷ xs) h = simp h.0 (finds_none p xs h.1)

earlier_differs : (route a b : Route) → is_listed_before a b ≡ true → has_same_key b route ≡ true → has_same_key a route ≡ false
earlier_differs route a b ahead same = grind (arith, nat_tests, ahead, same)

pub finds_it : (route other : Route) (routes : List Route) → IsRising is_listed_before routes → IsIn other routes → has_same_key other route ≡ true → find (λ one. has_same_key one route) routes ≡ Some other
finds_it route other [] rises within same = absurd within
finds_it route other (first ∷ routes) rises (inl is) same = let here : has_same_key first route ≡ true = ap (λ one. has_same_key one route) (sym is) ∙ same in simp here (ap Some (sym is))
finds_it route other (first ∷ routes) rises (inr later) same =
    let apart : has_same_key first route ≡ false = earlier_differs route first other (each_in (λ x. is_listed_before first x ≡ true) other routes rises.0 later) same in
    simp apart (finds_it route other routes rises.1 later same)

-- one is found that passes the test
abbrev pub passes : {X : Type 0} → (X → Bool) → Option X → Bool
passes p None = false
passes p (Some x) = p x

later_differs : (route a b : Route) → is_listed_before a b ≡ true → has_same_key a route ≡ true → has_same_key b route ≡ false
later_differs route a b ahead same = grind (arith, nat_tests, ahead, same)

key_kept_by : (p : Route → Bool) (route first : Route) (routes : List Route) (b k : Bool) → has_same_key first route ≡ b → p first ≡ k → (b ≡ true → has_key (key_of route) (filter p routes) ≡ false) → has_key (key_of route) (filter p routes) ≡ passes p (find (λ one. has_same_key one route) routes) → has_key (key_of route) (cond k (first ∷ filter p routes) (filter p routes)) ≡ passes p (cond b (Some first) (find (λ one. has_same_key one route) routes))
key_kept_by p route first routes true true is test none rest = ap (λ b. b || has_key (key_of route) (filter p routes)) is ∙ sym test
key_kept_by p route first routes true false is test none rest = none refl ∙ sym test
key_kept_by p route first routes false true is test none rest = ap (λ b. b || has_key (key_of route) (filter p routes)) is ∙ rest
key_kept_by p route first routes false false is test none rest = rest

-- one of those that pass has the key, if the one that has it passes
pub key_kept : (p : Route → Bool) (route : Route) (routes : List Route) → IsRising is_listed_before routes → has_key (key_of route) (filter p routes) ≡ passes p (find (λ one. has_same_key one route) routes)
key_kept p route [] rises = refl
key_kept p route (first ∷ routes) rises =
    key_kept_by p route first routes (has_same_key first route) (p first) refl refl
    (λ same. any_none (λ one. has_same_key one route) (filter p routes) (each_filtered (λ one. has_same_key one route ≡ false) p routes (each_implies (λ one. is_listed_before first one ≡ true) (λ one. has_same_key one route ≡ false) (λ one ahead. later_differs route first one ahead same) routes rises.0)))
    (key_kept p route routes rises.1)

-- a false part makes all false
pub and_fails : (a b : Bool) → a ≡ false → (a && b) ≡ false
and_fails true b is = differ is
and_fails false b is = refl

unlike_key : (route other : Route) → has_same_key other route ≡ false → agrees route other ≡ false
unlike_key route other apart = simp (keys_both_ways route other ∙ apart) refl

or_nothing : (b : Bool) → (b || false) ≡ b
or_nothing true = refl
or_nothing false = refl

unlike_serving : (route other : Route) → has_same_key other route ≡ false → serves route other ≡ false
unlike_serving route other apart = simp (keys_both_ways route other ∙ apart) refl

one_found_by : (p : Route → Bool) (route first : Route) (routes : List Route) (b : Bool) → has_same_key first route ≡ b → (b ≡ true → list_any p routes ≡ false) → ((one : Route) → has_same_key one route ≡ false → p one ≡ false) → list_any p routes ≡ passes p (find (λ one. has_same_key one route) routes) → list_any p (first ∷ routes) ≡ passes p (cond b (Some first) (find (λ one. has_same_key one route) routes))
one_found_by p route first routes true is none unlike rest = ap (λ b. p first || b) (none refl) ∙ or_nothing (p first)
one_found_by p route first routes false is none unlike rest = ap (λ b. b || list_any p routes) (unlike first is) ∙ rest

-- one passes that no route of another key does, if the one that has the key passes
one_found : (p : Route → Bool) (route : Route) (routes : List Route) → ((one : Route) → has_same_key one route ≡ false → p one ≡ false) → IsRising is_listed_before routes → list_any p routes ≡ passes p (find (λ one. has_same_key one route) routes)
one_found p route [] unlike rises = refl
one_found p route (first ∷ routes) unlike rises =
    one_found_by p route first routes (has_same_key first route) refl
    (λ same. any_none p routes (each_implies (λ one. is_listed_before first one ≡ true) (λ one. p one ≡ false) (λ one ahead. unlike one (later_differs route first one ahead same)) routes rises.0))
    unlike
    (one_found p route routes unlike rises.1)

-- the route is there, if the one that has its key is the same
pub route_found : (route : Route) (routes : List Route) → IsRising is_listed_before routes → has_agreeing route routes ≡ passes (agrees route) (find (λ one. has_same_key one route) routes)
route_found route routes rises = one_found (agrees route) route routes (unlike_key route) rises

serving_found : (route : Route) (routes : List Route) → IsRising is_listed_before routes → has_serving route routes ≡ passes (serves route) (find (λ one. has_same_key one route) routes)
serving_found route routes rises = one_found (serves route) route routes (unlike_serving route) rises

-- ---- what the code checks

found_any : {X : Type 0} (p : X → Bool) (xs : List X) → is_some (find p xs) ≡ list_any p xs
found_any p [] = refl
found_any p (x ∷ xs) = by p x xs (p x) (found_any p xs)
  where
    by : {X : Type 0} (p : X → Bool) (x : X) (xs : List X) (b : Bool) → is_some (find p xs) ≡ list_any p xs → is_some (cond b (Some x) (find p xs)) ≡ (b || list_any p xs)
    by p x xs true rest = refl
    by p x xs false rest = rest

-- one of the routes has the key
pub key_if : (route : Route) (routes : List Route) (one : Option Route) → one ≡ find (λ other. has_same_key other route) routes → is_some one ≡ has_key (key_of route) routes
key_if route routes one is = ap is_some is ∙ found_any (λ other. has_same_key other route) routes

-- no kept route has the key
pub free_if : (fence : Fence) (route : Route) (found : List Route) (one : Option Route) → IsRising is_listed_before found → one ≡ find (λ other. has_same_key other route) found → not (passes (is_kept fence) one) ≡ not (has_key (key_of route) (kept_routes fence found))
free_if fence route found one rises is = ap not (ap (passes (is_kept fence)) is ∙ sym (key_kept (is_kept fence) route found rises))

-- a kept route has the key or not, and none passes that no route of another key does
kept_if : (p : Route → Bool) (test : Bool → Bool) (fence : Fence) (route : Route) (found : List Route) (one : Option Route) → IsRising is_listed_before found → list_any p found ≡ passes p (find (λ other. has_same_key other route) found) → one ≡ find (λ other. has_same_key other route) found
    → test (passes (is_kept fence) one) && not (passes p one) ≡ test (has_key (key_of route) (kept_routes fence found)) && not (list_any p found)
kept_if p test fence route found one rises any is =
    ap (λ o. test (passes (is_kept fence) o) && not (passes p o)) is
    ∙ ap (λ b. test b && not (passes p (find (λ other. has_same_key other route) found))) (sym (key_kept (is_kept fence) route found rises))
    ∙ ap (λ b. test (has_key (key_of route) (kept_routes fence found)) && not b) (sym any)

pub blocked_if : (fence : Fence) (route : Route) (found : List Route) (one : Option Route) → IsRising is_listed_before found → one ≡ find (λ other. has_same_key other route) found
    → passes (is_kept fence) one && not (passes (serves route) one) ≡ has_key (key_of route) (kept_routes fence found) && not (has_serving route found)
blocked_if fence route found one rises is = kept_if (serves route) (λ b. b) fence route found one rises (serving_found route found rises) is

pub unmade_if : (fence : Fence) (route : Route) (found : List Route) (one : Option Route) → IsRising is_listed_before found → one ≡ find (λ other. has_same_key other route) found
    → not (passes (is_kept fence) one) && not (passes (agrees route) one) ≡ not (has_key (key_of route) (kept_routes fence found)) && not (has_agreeing route found)
unmade_if fence route found one rises is = kept_if (agrees route) not fence route found one rises (route_found route found rises) is

pub serving_if : (route : Route) (routes : List Route) (one : Option Route) → IsRising is_listed_before routes → one ≡ find (λ other. has_same_key other route) routes → passes (serves route) one ≡ has_serving route routes
serving_if route routes one rises is = ap (passes (serves route)) is ∙ sym (serving_found route routes rises)

-- the route is managed, and no kept one has its key
abbrev pub is_free_and_managed : Fence → List Route → Route → Bool
is_free_and_managed fence found other = not (is_kept fence other) && not (has_key (key_of other) (kept_routes fence found))

pub wanted_if : (fence : Fence) (route : Route) (found wanted : List Route) (one : Option Route) → IsRising is_listed_before wanted → one ≡ find (λ other. has_same_key other route) wanted → passes (is_free_and_managed fence found) one ≡ has_key (key_of route) (wanted_routes fence found wanted)
wanted_if fence route found wanted one rises is =
    ap (passes (is_free_and_managed fence found)) is
    ∙ sym (key_kept (is_free_and_managed fence found) route wanted rises)
    ∙ ap (has_key (key_of route)) (sym (filtered_twice (λ route. not (is_kept fence route)) (λ route. not (has_key (key_of route) (kept_routes fence found))) wanted))

-- the route is managed, and no wanted one has its key
abbrev pub is_unwanted : Fence → List Route → List Route → Route → Bool
is_unwanted fence found wanted route = not (is_kept fence route) && not (has_key (key_of route) (wanted_routes fence found wanted))

pub unwanted_are : (fence : Fence) (found wanted : List Route) → unwanted_routes fence found wanted ≡ filter (is_unwanted fence found wanted) found
unwanted_are fence found wanted = filtered_twice (λ route. not (is_kept fence route)) (λ route. not (has_key (key_of route) (wanted_routes fence found wanted))) found

-- the route is managed, no kept one has its key, and it is not found so
abbrev pub is_missing : Fence → List Route → List Route → Route → Bool
is_missing fence found wanted route = not (is_kept fence route) && (not (has_key (key_of route) (kept_routes fence found)) && not (has_agreeing route found))

pub missing_are : (fence : Fence) (found wanted : List Route) → missing_routes fence found wanted ≡ filter (is_missing fence found wanted) wanted
missing_are fence found wanted =
    filtered_twice (λ route. not (has_key (key_of route) (kept_routes fence found))) (λ route. not (has_agreeing route found)) (managed_routes fence wanted)
    ∙ filtered_twice (λ route. not (is_kept fence route)) (λ route. not (has_key (key_of route) (kept_routes fence found)) && not (has_agreeing route found)) wanted

pub is_in_at : {X : Type 0} (xs : List X) (i : ℕ) (x : X) → i < length xs → x ≡ get_or xs i x → IsIn x xs
is_in_at xs i x inside is = contains_in x xs (i, inside, sym is)

and_turned : (a b c : Bool) → (a && (b && c)) ≡ (a && b && c)
and_turned true b c = refl
and_turned false b c = refl

-- equal keys
pub keys_tell : (a b : Route) (key other : RouteKey) (answer : Bool) → key ≡ key_of a → other ≡ key_of b → answer ≡ (key.table == other.table && (is_same_prefix key.prefix other.prefix && key.metric == other.metric)) → answer ≡ has_same_key a b
keys_tell a b key other answer first second is =
    is ∙ and_turned (key.table == other.table) (is_same_prefix key.prefix other.prefix) (key.metric == other.metric)
    ∙ ap (λ k. is_same_key k other) first ∙ ap (λ k. is_same_key (key_of a) k) second
