-- How the code goes over rules and routes that are in order, which no definition of the plan needs.
use Rattle.std.specs.Prelude.{ℕ, Bool, false, nat_le, nat_lt, if◌then◌else◌, List, [], ◌∷◌, filter, min, Option, Some, None}
use Rattle.prt_route.specs.Route.{is_listed_before, is_same_key, key_of}
use Rattle.prt_route.specs.declared.route.Route.{Route}
use Rattle.prt_rule.specs.declared.rule.Rule.{Rule}
use Rattle.prt_diff.specs.Apply.Routes.{is_same_route}

-- ---- routes

-- the routes from the first on that is not listed before this one
abbrev pub routes_from : Route → List Route → List Route
routes_from route [] = []
routes_from route (other ∷ others) = if is_listed_before other route then routes_from route others else other ∷ others

abbrev pub is_first : Route → List Route → Bool
is_first route [] = false
is_first route (other ∷ others) = is_same_route other route

abbrev pub has_first_key : Route → List Route → Bool
has_first_key route [] = false
has_first_key route (other ∷ others) = is_same_key (key_of other) (key_of route)

-- ---- rules

-- the rules of priorities below this one, and the others
abbrev pub rules_below : ℕ → List Rule → List Rule
rules_below priority rules = filter (λ rule. nat_lt rule.priority priority) rules

abbrev pub rules_from : ℕ → List Rule → List Rule
rules_from priority rules = filter (λ rule. nat_le priority rule.priority) rules

-- the lowest priority, if both lists are in order
abbrev pub lowest_priority : List Rule → List Rule → Option ℕ
lowest_priority [] [] = None
lowest_priority (rule ∷ rules) [] = Some rule.priority
lowest_priority [] (other ∷ others) = Some other.priority
lowest_priority (rule ∷ rules) (other ∷ others) = Some (min rule.priority other.priority)
