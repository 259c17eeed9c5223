-- What is wanted and not brought, and what is not wanted and stays: ip-route(8), ip-rule(8).
use Rattle.std.specs.Prelude.{◌≡◌, Bool, not, ◌&&◌, ◌==◌, List, filter, length}
use Rattle.prt_route.specs.Edit.{has_key}
use Rattle.prt_route.specs.Route.{key_of}
use Rattle.prt_route.specs.declared.route.Route.{Route}
use Rattle.prt_rule.specs.declared.rule.Rule.{Rule}
use Rattle.prt_version.specs.Change.{has_rule}
use Rattle.prt_version.specs.State.{State}
use Rattle.prt_diff.specs.Fence.{is_kernels, is_unread_key, is_unread_priority, names_route, names_rule}
use Rattle.prt_diff.specs.Names.{is_plain_name}
use Rattle.prt_diff.specs.Routes.{kept_routes, managed_routes}
use Rattle.prt_diff.specs.Serving.{has_serving}
use Rattle.prt_diff.specs.Unreadable.{AreUnreadable, is_nothing_unreadable}
use Rattle.prt_diff.specs.declared.fence.Fence.{Fence}
use Rattle.prt_diff.specs.declared.held.Held.{Held}

-- ---- beside lines that can't be kept

-- the fence names the route, and `ip -batch` can read it
abbrev pub is_meant_route : Fence → Route → Bool
is_meant_route fence route = not (is_kernels route) && names_route fence route && is_plain_name route.dev

abbrev pub is_meant_rule : Fence → Rule → Bool
is_meant_rule fence rule = names_rule fence rule && is_plain_name rule.iif

-- a line that can't be kept has the key of such a route
abbrev pub is_unread_route : Fence → Route → Bool
is_unread_route fence route = is_unread_key fence (key_of route) && is_meant_route fence route

-- or the priority of such a rule
abbrev pub is_unread_rule : Fence → Rule → Bool
is_unread_rule fence rule = is_unread_priority fence rule.priority && is_meant_rule fence rule

-- ---- routes

-- Routes that are wanted and not brought: one that may not be changed has their key, and doesn't serve for them.
abbrev pub blocked_routes : Fence → List Route → List Route → List Route
blocked_routes fence found wanted =
    filter (λ route. has_key (key_of route) (kept_routes fence found) && not (has_serving route found)) (managed_routes fence wanted)

-- Routes that are wanted and not brought: a line that can't be kept has their key.
abbrev pub hindered_routes : Fence → List Route → List Route → List Route
hindered_routes fence found wanted = filter (λ route. is_unread_route fence route && not (has_serving route found)) wanted

-- Routes that are not wanted and stay: a line that can't be kept has their key.
abbrev pub staying_routes : Fence → List Route → List Route → List Route
staying_routes fence found wanted = filter (λ route. is_unread_route fence route && not (has_key (key_of route) wanted)) found

-- ---- rules

-- those of the rules that the others don't have, if a line that can't be kept has their priority
abbrev pub unread_rules : Fence → List Rule → List Rule → List Rule
unread_rules fence rules others = filter (λ rule. is_unread_rule fence rule && not (has_rule rule others)) rules

-- rules that are wanted and not brought
abbrev pub hindered_rules : Fence → List Rule → List Rule → List Rule
hindered_rules fence found wanted = unread_rules fence wanted found

-- rules that are not wanted and stay
abbrev pub staying_rules : Fence → List Rule → List Rule → List Rule
staying_rules fence found wanted = unread_rules fence found wanted

-- ---- all of it

-- What is held back of the changes from one state to another.
pub record AreHeld (fence : Fence) (found wanted : State) (held : Held) : Type 0 where
  pub blocked_routes : held.blocked_routes.items ≡ blocked_routes fence found.routes wanted.routes
  pub hindered_routes : held.hindered_routes.items ≡ hindered_routes fence found.routes wanted.routes
  pub staying_routes : held.staying_routes.items ≡ staying_routes fence found.routes wanted.routes
  pub hindered_rules : held.hindered_rules.items ≡ hindered_rules fence found.rules wanted.rules
  pub staying_rules : held.staying_rules.items ≡ staying_rules fence found.rules wanted.rules
  pub unreadable : AreUnreadable fence found.rules found.routes wanted.rules wanted.routes held.unreadable

abbrev pub is_nothing_held : Held → Bool
is_nothing_held held =
    length held.blocked_routes.items == 0
    && length held.hindered_routes.items == 0
    && length held.staying_routes.items == 0
    && length held.hindered_rules.items == 0
    && length held.staying_rules.items == 0
    && is_nothing_unreadable held.unreadable
