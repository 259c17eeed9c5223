-- Which routes differ: ip-route(8).
use Rattle.std.specs.Prelude.{ℕ, zero, suc, ◌+◌, Bool, false, not, ◌&&◌, ◌||◌, ◌==◌, nat_le, if◌then◌else◌, List, [], ◌∷◌, ◌++◌, filter, Option}
use Rattle.std.specs.Prelude.{Some, None, is_none, is_some, bytes_eq}
use Rattle.std.specs.List.{list_any}
use Rattle.std.specs.Option.{option_eq}
use Rattle.prt_route.specs.Edit.{after_edit, has_key}
use Rattle.prt_route.specs.Names.{main_table}
use Rattle.prt_route.specs.Route.{is_same_key, key_of}
use Rattle.prt_route.specs.RouteChoice.{is_same_addr, is_same_kind}
use Rattle.prt_route.specs.declared.choice.RouteChoice.{RouteChoice}
use Rattle.prt_route.specs.declared.edit.RouteEdit.TheVariants.{Put}
use Rattle.prt_route.specs.declared.route.Route.{Route}
use Rattle.prt_rule.specs.declared.rule.Action.{Action}
use Rattle.prt_rule.specs.declared.rule.Action.TheVariants.{Lookup}
use Rattle.prt_rule.specs.declared.rule.Rule.{Rule}
use Rattle.prt_command.specs.declared.request.Command.{Command}
use Rattle.prt_command.specs.declared.request.Command.TheVariants.{RouteReplace, RouteDel}
use Rattle.prt_diff.specs.Fence.{is_route_within}
use Rattle.prt_diff.specs.declared.fence.Fence.{Fence}

-- ---- kept and managed routes

-- a route that may not be changed
abbrev pub is_kept : Fence → Route → Bool
is_kept fence route = not (is_route_within fence route)

abbrev pub kept_routes : Fence → List Route → List Route
kept_routes fence routes = filter (is_kept fence) routes

abbrev pub managed_routes : Fence → List Route → List Route
managed_routes fence routes = filter (λ route. not (is_kept fence route)) routes

-- the managed routes that are wanted, except those with the key of a kept one that is found
abbrev pub wanted_routes : Fence → List Route → List Route → List Route
wanted_routes fence found wanted = filter (λ route. not (has_key (key_of route) (kept_routes fence found))) (managed_routes fence wanted)

-- ---- what differs

-- the kernel finds the interface of such a route by its gateway
abbrev pub leaves_dev : Route → Bool
leaves_dev route = is_some route.via && is_none route.dev

abbrev pub agrees_on_dev : Route → Route → Bool
agrees_on_dev wanted found = leaves_dev wanted || option_eq bytes_eq wanted.dev found.dev

abbrev pub agrees_on_src : Route → Route → Bool
agrees_on_src wanted found = (leaves_dev wanted && is_none wanted.src) || option_eq is_same_addr wanted.src found.src

-- The route that is found is as it is wanted. What the kernel fills in is no difference.
abbrev pub agrees : Route → Route → Bool
agrees wanted found = is_same_key (key_of wanted) (key_of found) && is_same_kind wanted.kind found.kind
    && option_eq is_same_addr wanted.via found.via && agrees_on_dev wanted found && agrees_on_src wanted found
    && wanted.proto == found.proto && wanted.scope == found.scope

abbrev pub has_agreeing : Route → List Route → Bool
has_agreeing route routes = list_any (agrees route) routes

-- the managed routes that are found, whose key no wanted one has
abbrev pub unwanted_routes : Fence → List Route → List Route → List Route
unwanted_routes fence found wanted = filter (λ route. not (has_key (key_of route) (wanted_routes fence found wanted))) (managed_routes fence found)

-- the wanted routes that are not found so
abbrev pub missing_routes : Fence → List Route → List Route → List Route
missing_routes fence found wanted = filter (λ route. not (has_agreeing route found)) (wanted_routes fence found wanted)

-- ---- their order

abbrev pub looks_up : ℕ → Action → Bool
looks_up table (Lookup other) = table == other
looks_up table action = false

abbrev pub is_lookup_of : ℕ → Rule → Bool
is_lookup_of table rule = looks_up table rule.action

-- some rule looks up the table
abbrev pub is_looked_up : List Rule → ℕ → Bool
is_looked_up rules table = list_any (is_lookup_of table) rules

-- the rule looks up main for every packet
abbrev pub is_main_rule : Rule → Bool
is_main_rule rule = not rule.inverted && rule.from.len == 0 && rule.to.len == 0 && is_none rule.iif && is_none rule.mark
    && is_none rule.suppress && is_lookup_of main_table rule

-- the route may reach a gateway of another, and a rule that is found looks up its table
abbrev pub is_late_link : List Rule → Route → Bool
is_late_link rules route = is_none route.via && is_looked_up rules route.table

-- The kernel finds each gateway before the rules come: it looks through main, and no route that may reach one comes later.
abbrev pub gateways_are_found : List Rule → List Route → Bool
gateways_are_found rules routes = list_any is_main_rule rules && not (list_any (is_late_link rules) routes)

-- the route comes before the rules: no rule that is found looks up its table, and the kernel finds its gateway
abbrev pub is_early : List Rule → Bool → Route → Bool
is_early rules gateways route = not (is_looked_up rules route.table) && (is_none route.via || gateways)

abbrev pub early_routes : List Rule → List Route → List Route
early_routes rules routes = filter (is_early rules (gateways_are_found rules routes)) routes

abbrev pub late_routes : List Rule → List Route → List Route
late_routes rules routes = filter (λ route. not (is_early rules (gateways_are_found rules routes) route)) routes

-- routes of higher rank come first: those without a gateway before those with one, and longer prefixes before shorter ones
abbrev pub rank : Route → ℕ
rank route = (if is_none route.via then 33 else 0) + (if nat_le route.prefix.len 32 then route.prefix.len else 32)

abbrev pub highest_first : ℕ → List Route → List Route
highest_first zero routes = []
highest_first (suc n) routes = filter (λ route. rank route == n) routes ++ highest_first n routes

unfoldable pub in_turn : List Route → List Route
in_turn routes = highest_first 66 routes

-- the routes after these are put, one after another
abbrev pub put_all : List Route → List Route → List Route
put_all [] routes = routes
put_all (route ∷ todo) routes = put_all todo (after_edit (Put route) routes)

-- ---- the commands

-- a metric of 0 is named by none: the lowest is deleted
abbrev pub named_metric : ℕ → Option ℕ
named_metric metric = if metric == 0 then None else Some metric

-- the route by its key
abbrev pub choice_of : Route → RouteChoice
choice_of route = record {
  table = route.table;
  prefix = route.prefix;
  metric = named_metric route.metric;
  kind = None;
  via = None;
  dev =
      None;
  src = None;
  proto = None;
  scope = None;
}

abbrev pub delete_route : Route → Command
delete_route route = RouteDel (choice_of route)

abbrev pub replace_route : Route → Command
replace_route route = RouteReplace route
