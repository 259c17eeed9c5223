-- Which rules and routes may be changed: ip-rule(8), ip-route(8).
use Rattle.std.specs.Prelude.{ℕ, Bool, true, false, not, ◌&&◌, ◌||◌, ◌==◌, nat_le, List, [], ◌∷◌, filter, length}
use Rattle.std.specs.List.{list_any}
use Rattle.prt_route.specs.Names.{local_table, main_table}
use Rattle.prt_route.specs.Route.{is_same_key, key_of}
use Rattle.prt_route.specs.declared.route.Route.{Route}
use Rattle.prt_route.specs.declared.route.RouteKey.{RouteKey}
use Rattle.prt_rule.specs.declared.rule.Rule.{Rule}
use Rattle.prt_diff.specs.Names.{is_plain_name}
use Rattle.prt_diff.specs.declared.fence.Fence.{Fence}
use Rattle.prt_diff.specs.declared.fence.NumberRange.{NumberRange}

-- the range has the number: both its ends belong to it
abbrev pub has_number : ℕ → NumberRange → Bool
has_number number range = nat_le range.first number && nat_le number range.last

-- one of these ranges has the number
abbrev pub is_named : ℕ → List NumberRange → Bool
is_named number ranges = list_any (has_number number) ranges

abbrev pub is_nothing : List NumberRange → Bool
is_nothing [] = true
is_nothing (range ∷ ranges) = false

-- the number is named, or none is
abbrev pub is_allowed : ℕ → List NumberRange → Bool
is_allowed number ranges = is_nothing ranges || is_named number ranges

abbrev pub kernel_protocol : ℕ
kernel_protocol = 2

-- the kernel makes the route itself: it is of table local, or of protocol kernel in table main
abbrev pub is_kernels : Route → Bool
is_kernels route = route.table == local_table || (route.table == main_table && route.proto == kernel_protocol)

-- ---- what is outside of every fence

-- Rules of this priority can't be kept in the listing. Words that name one of ours might take such a rule.
abbrev pub is_unread_priority : Fence → ℕ → Bool
is_unread_priority fence priority = is_named priority fence.unread_priorities.items

-- A route of this key can't be kept in the listing. One of ours would replace it.
abbrev pub is_unread_key : Fence → RouteKey → Bool
is_unread_key fence key = list_any (is_same_key key) fence.unread_keys.items

-- a line names the rule, and no other by the same words
abbrev pub is_safe_rule : Fence → Rule → Bool
is_safe_rule fence rule = not (is_unread_priority fence rule.priority) && is_plain_name rule.iif

-- a line names the route, and no other by the same key
abbrev pub is_safe_route : Fence → Route → Bool
is_safe_route fence route = not (is_unread_key fence (key_of route)) && is_plain_name route.dev

-- ---- what may be changed

-- the fence has routes: those of the tables or of the protocols that it names
abbrev pub names_routes : Fence → Bool
names_routes fence = not (is_nothing fence.tables.items && is_nothing fence.protocols.items)

-- the fence names everything, or the route's table and its protocol
abbrev pub names_route : Fence → Route → Bool
names_route fence route = fence.all || (names_routes fence && is_allowed route.table fence.tables.items && is_allowed route.proto fence.protocols.items)

abbrev pub is_in_fence : Fence → Route → Bool
is_in_fence fence route = names_route fence route && is_safe_route fence route

-- the route may be changed
abbrev pub is_route_within : Fence → Route → Bool
is_route_within fence route = not (is_kernels route) && is_in_fence fence route

-- the fence names everything, or the rule's priority
abbrev pub names_rule : Fence → Rule → Bool
names_rule fence rule = fence.all || is_named rule.priority fence.priorities.items

-- the rule may be changed
abbrev pub is_rule_within : Fence → Rule → Bool
is_rule_within fence rule = names_rule fence rule && is_safe_rule fence rule

abbrev pub rules_within : Fence → List Rule → List Rule
rules_within fence rules = filter (is_rule_within fence) rules

-- ---- what is outside

-- how many rules the fence doesn't name
abbrev pub rules_outside : Fence → List Rule → ℕ
rules_outside fence rules = length (filter (λ rule. not (names_rule fence rule)) rules)

-- how many routes the fence doesn't name, without those that the kernel makes itself
abbrev pub routes_outside : Fence → List Route → ℕ
routes_outside fence routes = length (filter (λ route. not (is_kernels route) && not (names_route fence route)) routes)
