-- How the code goes over routes in order: each list once.
use Rattle.std.proofs.Common.{◌≡◌, ℕ, ◌+◌, ◌<◌, Bool, true, false, not, ◌||◌, List, [], ◌∷◌, ◌++◌, length, map, refl, sym, ap, ◌∙◌, subst, append_assoc, cond, get_or, take, drop}
use Rattle.std.specs.Prelude.{filter, if◌then◌else◌}
use Rattle.std.specs.List.{list_any, AllByRecursion as Each}
use Rattle.std.proofs.lemmas.List.{drop_more, take-append-drop}
use Rattle.prt_addr.specs.Rising.{IsRising}
use Rattle.prt_addr.proofs.Each.{any_none, each_implies}
use Rattle.prt_route.specs.Route.{is_listed_before}
use Rattle.prt_route.specs.declared.route.Route.{Route}
use Rattle.prt_route.proofs.Edits.{listing_order}
use Rattle.prt_command.specs.declared.request.Command.{Command}
use Rattle.prt_trie.specs.Table.{has_same_key}
use Rattle.prt_version.proofs.RowOrder.{key_differs, keys_both_ways}
use Rattle.prt_version.proofs.SortedRows.{rising_parts}
use Rattle.prt_addr.proofs.Orders.{through}
use Rattle.prt_diff.specs.Routes.{delete_route, replace_route}
use Rattle.prt_diff.specs.Apply.Routes.{is_same_route, missing_routes, unwanted_routes}
use Rattle.prt_diff.specs.Apply.Walk.{has_first_key, is_first, routes_from}
use Rattle.prt_diff.proofs.Members.{differ, false_by}
use Rattle.prt_diff.proofs.RouteSteps.{has_its_key}
use Rattle.prt_diff.proofs.Applying.SameRoutes.{routes_same}

-- ---- the routes from one on

rises_by : (route other : Route) (others : List Route) (b : Bool) → IsRising is_listed_before (other ∷ others) → IsRising is_listed_before (routes_from route others) → IsRising is_listed_before (if b then routes_from route others else other ∷ others)
rises_by route other others true rises rest = rest
rises_by route other others false rises rest = rises

pub rises_from : (route : Route) (routes : List Route) → IsRising is_listed_before routes → IsRising is_listed_before (routes_from route routes)
rises_from route [] rises = rises
rises_from route (other ∷ others) rises = rises_by route other others (is_listed_before other route) rises (rises_from route others rises.1)

-- ---- tests of routes that have one key

module _ (same : Route → Route → Bool) (tells : (a b : Route) → same a b ≡ true → has_same_key a b ≡ true) where
  -- those of the routes that no other is the same as
  abbrev pub lacking : List Route → List Route → List Route
  lacking others routes = filter (λ route. not (list_any (λ other. same other route) others)) routes

  abbrev pub first_is : Route → List Route → Bool
  first_is route [] = false
  first_is route (other ∷ others) = same other route

  unlike : (a b : Route) → has_same_key a b ≡ false → same a b ≡ false
  unlike a b differs = false_by (same a b) (λ is. differ (sym (tells a b is) ∙ differs))

  unlike_earlier : (a b : Route) → is_listed_before a b ≡ true → same a b ≡ false
  unlike_earlier a b ahead = unlike a b (key_differs a b ahead)

  unlike_later : (a b : Route) → is_listed_before b a ≡ true → same a b ≡ false
  unlike_later a b ahead = unlike a b (keys_both_ways a b ∙ key_differs b a ahead)

  later_by : (route other later : Route) (b : Bool) → is_listed_before route later ≡ b → is_listed_before other route ≡ false → is_listed_before other later ≡ true → b ≡ true
  later_by route other later true is after ahead = refl
  later_by route other later false is after ahead = differ (sym ahead ∙ listing_order.chain other route later after is)

  -- what follows one that is not listed before the route is not the same
  none_later : (route other : Route) (others : List Route) → is_listed_before other route ≡ false → Each (λ later. is_listed_before other later ≡ true) others → list_any (λ later. same later route) others ≡ false
  none_later route other others after rises =
      any_none (λ later. same later route) others
      (each_implies (λ later. is_listed_before other later ≡ true) (λ later. same later route ≡ false) (λ later ahead. unlike_later later route (later_by route other later (is_listed_before route later) refl after ahead)) others rises)

  or_nothing : (b c : Bool) → c ≡ false → (b || c) ≡ b
  or_nothing true c is = refl
  or_nothing false c is = is

  any_by : (route other : Route) (others : List Route) (b : Bool) → is_listed_before other route ≡ b → IsRising is_listed_before (other ∷ others) → list_any (λ x. same x route) others ≡ first_is route (routes_from route others) → (same other route || list_any (λ x. same x route) others) ≡ first_is route (if b then routes_from route others else other ∷ others)
  any_by route other others true is rises rest = ap (λ b. b || list_any (λ x. same x route) others) (unlike_earlier other route is) ∙ rest
  any_by route other others false is rises rest = or_nothing (same other route) (list_any (λ x. same x route) others) (none_later route other others is rises.0)

  -- the first from the route on decides
  any_is_first : (route : Route) (routes : List Route) → IsRising is_listed_before routes → list_any (λ x. same x route) routes ≡ first_is route (routes_from route routes)
  any_is_first route [] rises = refl
  any_is_first route (other ∷ others) rises = any_by route other others (is_listed_before other route) refl rises (any_is_first route others rises.1)

  skipped_by : (route later other : Route) (others : List Route) (b : Bool) → is_listed_before other route ≡ b → is_listed_before route later ≡ true → list_any (λ x. same x later) others ≡ list_any (λ x. same x later) (routes_from route others) → (same other later || list_any (λ x. same x later) others) ≡ list_any (λ x. same x later) (if b then routes_from route others else other ∷ others)
  skipped_by route later other others true is ahead rest = ap (λ b. b || list_any (λ x. same x later) others) (unlike_earlier other later (through is_listed_before listing_order other route later is ahead)) ∙ rest
  skipped_by route later other others false is ahead rest = refl

  -- none that is skipped is the same as a later one
  any_skipped : (route later : Route) (routes : List Route) → is_listed_before route later ≡ true → list_any (λ x. same x later) routes ≡ list_any (λ x. same x later) (routes_from route routes)
  any_skipped route later [] ahead = refl
  any_skipped route later (other ∷ others) ahead = skipped_by route later other others (is_listed_before other route) refl ahead (any_skipped route later others ahead)

  filter_same : (p q : Route → Bool) (routes : List Route) → Each (λ route. p route ≡ q route) routes → filter p routes ≡ filter q routes
  filter_same p q [] same = refl
  filter_same p q (route ∷ routes) same = ap (λ b. cond b (route ∷ filter p routes) (filter p routes)) same.0 ∙ ap (λ xs. cond (q route) (route ∷ xs) xs) (filter_same p q routes same.1)

  lacking_more : (route : Route) (others routes : List Route) → IsRising is_listed_before others → Each (λ later. is_listed_before route later ≡ true) routes
      → lacking others (route ∷ routes) ≡ cond (not (first_is route (routes_from route others))) (route ∷ lacking (routes_from route others) routes) (lacking (routes_from route others) routes)
  lacking_more route others routes rises later =
      ap (λ b. cond (not b) (route ∷ lacking others routes) (lacking others routes)) (any_is_first route others rises)
      ∙ ap (λ xs. cond (not (first_is route (routes_from route others))) (route ∷ xs) xs)
      (filter_same (λ r. not (list_any (λ x. same x r) others)) (λ r. not (list_any (λ x. same x r) (routes_from route others))) routes
      (each_implies (λ r. is_listed_before route r ≡ true) (λ r. not (list_any (λ x. same x r) others) ≡ not (list_any (λ x. same x r) (routes_from route others))) (λ r ahead. ap not (any_skipped route r others ahead)) routes later))

  -- ---- one step of the walk

  module _ (command : Route → Command) (routes others rest : List Route) (i : ℕ) (route : Route) (sofar all : List Command) (inside : i < length routes) (at : route ≡ get_or routes i route) (rises : IsRising is_listed_before routes) (rest_rises : IsRising is_listed_before rest) (after : others ≡ routes_from route rest) (held : sofar ++ map command (lacking rest (drop i routes)) ≡ all) where
    parts : drop i routes ≡ route ∷ drop (i + 1) routes
    parts = drop_more routes i route inside ∙ ap (λ x. x ∷ drop (i + 1) routes) (sym at)

    behind : Each (λ later. is_listed_before route later ≡ true) (drop (i + 1) routes)
    behind = (subst (IsRising is_listed_before) parts (rising_parts is_listed_before (take i routes) (drop i routes) (subst (IsRising is_listed_before) (sym (take-append-drop i routes)) rises)).1).0

    step : lacking rest (drop i routes) ≡ cond (not (first_is route others)) (route ∷ lacking others (drop (i + 1) routes)) (lacking others (drop (i + 1) routes))
    step =
        ap (lacking rest) parts ∙ lacking_more route rest (drop (i + 1) routes) rest_rises behind
        ∙ ap (λ xs. cond (not (first_is route xs)) (route ∷ lacking xs (drop (i + 1) routes)) (lacking xs (drop (i + 1) routes))) (sym after)

    pub walk_on : first_is route others ≡ true → sofar ++ map command (lacking others (drop (i + 1) routes)) ≡ all
    walk_on is = ap (λ xs. sofar ++ map command xs) (sym (step ∙ ap (λ b. cond (not b) (route ∷ lacking others (drop (i + 1) routes)) (lacking others (drop (i + 1) routes))) is)) ∙ held

    pub walk_more : first_is route others ≡ false → (sofar ++ command route ∷ []) ++ map command (lacking others (drop (i + 1) routes)) ≡ all
    walk_more is =
        append_assoc sofar (command route ∷ []) (map command (lacking others (drop (i + 1) routes)))
        ∙ ap (λ xs. sofar ++ map command xs) (sym (step ∙ ap (λ b. cond (not b) (route ∷ lacking others (drop (i + 1) routes)) (lacking others (drop (i + 1) routes))) is)) ∙ held

-- ---- the two tests

tells_key : (a b : Route) → is_same_route a b ≡ true → has_same_key a b ≡ true
tells_key a b same = ap (has_same_key a) (sym ((routes_same a b).0 same)) ∙ has_its_key a

is_first_test : (route : Route) (routes : List Route) → is_first route routes ≡ first_is is_same_route tells_key route routes
is_first_test route [] = refl
is_first_test route (other ∷ others) = refl

has_first_test : (route : Route) (routes : List Route) → has_first_key route routes ≡ first_is has_same_key (λ a b same. same) route routes
has_first_test route [] = refl
has_first_test route (other ∷ others) = refl

module _ (routes others rest : List Route) (i : ℕ) (route : Route) (sofar new all : List Command) (inside : i < length routes) (at : route ≡ get_or routes i route) (rises : IsRising is_listed_before routes) (rest_rises : IsRising is_listed_before rest) (after : others ≡ routes_from route rest) where
  pub missing_on : sofar ++ map replace_route (missing_routes rest (drop i routes)) ≡ all → is_first route others ≡ true → new ≡ sofar → new ++ map replace_route (missing_routes others (drop (i + 1) routes)) ≡ all
  missing_on held is pushed =
      ap (λ commands. commands ++ map replace_route (missing_routes others (drop (i + 1) routes))) pushed
      ∙ walk_on is_same_route tells_key replace_route routes others rest i route sofar all inside at rises rest_rises after held (sym (is_first_test route others) ∙ is)

  pub missing_more : sofar ++ map replace_route (missing_routes rest (drop i routes)) ≡ all → is_first route others ≡ false → new ≡ sofar ++ replace_route route ∷ [] → new ++ map replace_route (missing_routes others (drop (i + 1) routes)) ≡ all
  missing_more held is pushed =
      ap (λ commands. commands ++ map replace_route (missing_routes others (drop (i + 1) routes))) pushed
      ∙ walk_more is_same_route tells_key replace_route routes others rest i route sofar all inside at rises rest_rises after held (sym (is_first_test route others) ∙ is)

  pub unwanted_on : sofar ++ map delete_route (unwanted_routes (drop i routes) rest) ≡ all → has_first_key route others ≡ true → new ≡ sofar → new ++ map delete_route (unwanted_routes (drop (i + 1) routes) others) ≡ all
  unwanted_on held is pushed =
      ap (λ commands. commands ++ map delete_route (unwanted_routes (drop (i + 1) routes) others)) pushed
      ∙ walk_on has_same_key (λ a b same. same) delete_route routes others rest i route sofar all inside at rises rest_rises after held (sym (has_first_test route others) ∙ is)

  pub unwanted_more : sofar ++ map delete_route (unwanted_routes (drop i routes) rest) ≡ all → has_first_key route others ≡ false → new ≡ sofar ++ delete_route route ∷ [] → new ++ map delete_route (unwanted_routes (drop (i + 1) routes) others) ≡ all
  unwanted_more held is pushed =
      ap (λ commands. commands ++ map delete_route (unwanted_routes (drop (i + 1) routes) others)) pushed
      ∙ walk_more has_same_key (λ a b same. same) delete_route routes others rest i route sofar all inside at rises rest_rises after held (sym (has_first_test route others) ∙ is)
