-- What no line brings or deletes, since `ip -batch` can't read the name of its interface: ip(8).
use Rattle.std.specs.Prelude.{◌≡◌, Bool, not, ◌&&◌, ◌==◌, List, filter, length}
use Rattle.prt_route.specs.Edit.{has_key}
use Rattle.prt_route.specs.Route.{key_of}
use Rattle.prt_route.specs.declared.route.Route.{Route}
use Rattle.prt_rule.specs.declared.rule.Rule.{Rule}
use Rattle.prt_version.specs.Change.{has_rule}
use Rattle.prt_diff.specs.Fence.{is_kernels, names_route, names_rule}
use Rattle.prt_diff.specs.Names.{is_plain_name}
use Rattle.prt_diff.specs.Serving.{has_serving}
use Rattle.prt_diff.specs.declared.fence.Fence.{Fence}
use Rattle.prt_diff.specs.declared.unreadable.Unreadable.{Unreadable}

abbrev pub is_unreadable_rule : Rule → Bool
is_unreadable_rule rule = not (is_plain_name rule.iif)

-- routes that the kernel makes itself need no line
abbrev pub is_unreadable_route : Route → Bool
is_unreadable_route route = not (is_kernels route) && not (is_plain_name route.dev)

-- those of the fence's rules that the others don't have
abbrev pub unreadable_rules : Fence → List Rule → List Rule → List Rule
unreadable_rules fence rules others = filter (λ rule. names_rule fence rule && is_unreadable_rule rule && not (has_rule rule others)) rules

-- Routes of the fence that are wanted and not brought: none that is found serves for them.
abbrev pub missing_routes : Fence → List Route → List Route → List Route
missing_routes fence found wanted = filter (λ route. names_route fence route && is_unreadable_route route && not (has_serving route found)) wanted

-- Routes of the fence that are not wanted and stay.
abbrev pub staying_routes : Fence → List Route → List Route → List Route
staying_routes fence found wanted = filter (λ route. names_route fence route && is_unreadable_route route && not (has_key (key_of route) wanted)) found

-- What no line brings or deletes of the changes from found rules and routes to wanted ones.
pub record AreUnreadable (fence : Fence) (found_rules : List Rule) (found_routes : List Route) (wanted_rules : List Rule)
    (wanted_routes : List Route) (unreadable : Unreadable) : Type 0 where
  pub missing_rules : unreadable.missing_rules.items ≡ unreadable_rules fence wanted_rules found_rules
  pub missing_routes : unreadable.missing_routes.items ≡ missing_routes fence found_routes wanted_routes
  pub staying_rules : unreadable.staying_rules.items ≡ unreadable_rules fence found_rules wanted_rules
  pub staying_routes : unreadable.staying_routes.items ≡ staying_routes fence found_routes wanted_routes

abbrev pub is_nothing_unreadable : Unreadable → Bool
is_nothing_unreadable unreadable =
    length unreadable.missing_rules.items == 0
    && length unreadable.missing_routes.items == 0
    && length unreadable.staying_rules.items == 0
    && length unreadable.staying_routes.items == 0
