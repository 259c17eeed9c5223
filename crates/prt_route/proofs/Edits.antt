-- The orders of routes, and what rests on them: an edit keeps the order of listings, and keys are distinct in it.
use Rattle.std.proofs.Common.{◌≡◌, Bool, true, false, not, List, [], ◌∷◌, arith}
use Rattle.std.specs.Cmp.{IsStrictWeakOrder}
use Rattle.std.specs.List.{IsDistinct}
use Rattle.std.proofs.lemmas.Bool.Decides.{nat_tests}
use Rattle.prt_addr.specs.Rising.{IsRising}
use Rattle.prt_addr.proofs.Each.{each_implies, left_fail}
use Rattle.prt_addr.proofs.Orders.{inserted_rises, rising_filtered}
use Rattle.prt_route.specs.Edit.{after_edit, without_key}
use Rattle.prt_route.specs.Route.{is_better, is_listed_before, is_same_key, key_of}
use Rattle.prt_route.specs.RouteChoice.{is_selected}
use Rattle.prt_route.specs.declared.edit.RouteEdit.{RouteEdit}
use Rattle.prt_route.specs.declared.edit.RouteEdit.TheVariants.{Put, Remove, Flush}
use Rattle.prt_route.specs.declared.route.Route.{Route}

abbrev same_key : Route → Route → Bool
same_key a b = is_same_key (key_of a) (key_of b)

pub listing_order : IsStrictWeakOrder is_listed_before
listing_order = record { one_way = λ a b first. grind (arith, nat_tests); chain = λ a b c first second. grind (arith, nat_tests) }

pub better_order : IsStrictWeakOrder is_better
better_order = record { one_way = λ a b over. grind (arith, nat_tests); chain = λ a b c first second. grind (arith, nat_tests) }

other_way : (new other : Route) → same_key other new ≡ false → is_listed_before new other ≡ false → is_listed_before other new ≡ true
other_way new other differ after = grind (arith, nat_tests)

-- a route among those of other keys
put_rises : (route : Route) (routes : List Route) → IsRising is_listed_before routes → IsRising is_listed_before (after_edit (Put route) routes)
put_rises route routes rises =
    inserted_rises is_listed_before listing_order route (without_key (key_of route) routes)
    (each_implies (λ other. same_key other route ≡ false) (λ other. is_listed_before route other ≡ false → is_listed_before other route ≡ true) (λ other. other_way route other) (without_key (key_of route) routes)
    (left_fail (λ other. same_key other route) routes))
    (rising_filtered is_listed_before (λ other. not (same_key other route)) routes rises)

-- the routes stay in the order of listings
pub edit_rises : (edit : RouteEdit) (routes : List Route) → IsRising is_listed_before routes → IsRising is_listed_before (after_edit edit routes)
edit_rises (Put route) routes rises = put_rises route routes rises
edit_rises (Remove key) routes rises = rising_filtered is_listed_before (λ route. not (is_same_key (key_of route) key)) routes rises
edit_rises (Flush selector) routes rises = rising_filtered is_listed_before (λ route. not (is_selected selector route)) routes rises

before_differs : (a b : Route) → is_listed_before a b ≡ true → same_key a b ≡ false
before_differs a b first = grind (arith, nat_tests)

-- routes that rise have distinct keys
pub rising_keys : (routes : List Route) → IsRising is_listed_before routes → IsDistinct same_key routes
unfolding IsDistinct
rising_keys [] rises = tt
rising_keys (route ∷ routes) rises = (each_implies (λ other. is_listed_before route other ≡ true) (λ other. same_key route other ≡ false) (λ other. before_differs route other) routes rises.0, rising_keys routes rises.1)
