-- The commands that make the tables of one state those of another: ip-route(8), ip-rule(8).
use Rattle.std.specs.Prelude.{Bool, ◌&&◌, List, ◌++◌, map}
use Rattle.std.specs.List.{list_all}
use Rattle.prt_route.specs.Storable.{is_storable_route}
use Rattle.prt_rule.specs.Storable.{is_storable_rule}
use Rattle.prt_command.specs.declared.request.Command.{Command}
use Rattle.prt_version.specs.State.{State}
use Rattle.prt_diff.specs.Routes.{delete_route, replace_route}
use Rattle.prt_diff.specs.Apply.Routes.{missing_routes, unwanted_routes}
use Rattle.prt_diff.specs.Apply.Rules.{rule_changes}

-- First routes come or change, then rules are replaced, and then routes go. So a route is there before a rule leads to it, and
-- goes after the rule that led to it.
abbrev pub plan : State → State → List Command
plan found wanted =
    map replace_route (missing_routes found.routes wanted.routes)
    ++ (rule_changes found.rules wanted.rules
    ++ map delete_route (unwanted_routes found.routes wanted.routes))

-- a table may hold each of the rules and routes
abbrev pub is_storable : State → Bool
is_storable state = list_all (λ rule. is_storable_rule rule.action rule.suppress) state.rules && list_all is_storable_route state.routes
