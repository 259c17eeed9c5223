-- What the plan brings, and between which states.
use Rattle.std.specs.Prelude.{◌≡◌, ◌⊎◌, ℕ, ◌+◌, ◌≤◌, true, length, map}
use Rattle.std.specs.List.{Contains}
use Rattle.prt_route.specs.Edit.{has_key}
use Rattle.prt_route.specs.declared.route.Route.{Route}
use Rattle.prt_route.specs.declared.route.RouteKey.{RouteKey}
use Rattle.prt_version.specs.Sound.{IsSound}
use Rattle.prt_version.specs.State.{State}
use Rattle.prt_version.specs.declared.limits.TheConstants.{MOST_COMMANDS, MOST_ROUTES, MOST_RULES}
use Rattle.prt_diff.specs.Routes.{put_all}
use Rattle.prt_diff.specs.Rules.{without_id}
use Rattle.prt_diff.specs.Apply.Plan.{plan}
use Rattle.prt_diff.specs.Apply.Routes.{missing_routes}
use Rattle.prt_diff.specs.Apply.Walk.{rules_below, rules_from}

-- the same routes and, except for ids, the same rules in the same order
pub record AreAlike (state other : State) : Type 0 where
  pub routes : state.routes ≡ other.routes
  pub rules : map without_id state.rules ≡ map without_id other.rules

-- The found state has room for the found and the wanted routes at once, and for the wanted rules below any priority beside the
-- found ones from there on.
pub record HasRoom (found wanted : State) : Type 0 where
  pub routes : length (put_all (missing_routes found.routes wanted.routes) found.routes) ≤ MOST_ROUTES
  pub rules : (priority : ℕ) → length (rules_below priority wanted.rules) + length (rules_from priority found.rules) ≤ MOST_RULES
  pub commands : found.count + length (plan found wanted) ≤ MOST_COMMANDS

-- what is asked of both states
pub record CanBring (found wanted : State) : Type 0 where
  pub found_sound : IsSound found
  pub wanted_sound : IsSound wanted
  pub room : HasRoom found wanted

-- ---- on the way

-- Each key of a route that both ends have is there, and each route that is there one of the ends has.
pub record IsBetween (found wanted state : State) : Type 0 where
  pub keys_of_both : (key : RouteKey) → has_key key found.routes ≡ true → has_key key wanted.routes ≡ true → has_key key state.routes ≡ true
  pub routes_of_one : (route : Route) → Contains state.routes route → Contains found.routes route ⊎ Contains wanted.routes route
