-- What the items of a line ask for.
use Rattle.std.specs.Prelude.{ℕ, Bool, true, false, not, ◌&&◌, ◌||◌, nat_lt, if◌then◌else◌, Option, Some, None, is_some, unwrap_or, Result, Ok, Err, codes}
use Rattle.std.specs.Option.{ok_or}
use Rattle.prt_addr.specs.Block.{Block}
use Rattle.prt_addr.specs.Prefix.{everything}
use Rattle.prt_addr.specs.Word.{keep}
use Rattle.prt_addr.specs.declared.addr.Addr.{Addr}
use Rattle.prt_refusals.specs.declared.refusal.Refusal.{Refusal}
use Rattle.prt_refusals.specs.declared.refusal.Refusal.TheVariants.{MissingDestination, NoNextHop, NextHopNotAllowed, SuppressNotAllowed, TooBroad}
use Rattle.prt_route.specs.Names.{boot_protocol, global_scope, link_scope, main_table}
use Rattle.prt_route.specs.RouteChoice.{is_same_kind}
use Rattle.prt_route.specs.declared.choice.Range.TheVariants as ranges
use Rattle.prt_route.specs.declared.choice.RouteChoice.{RouteChoice}
use Rattle.prt_route.specs.declared.choice.Selector.{Selector}
use Rattle.prt_route.specs.declared.kind.Kind.{Kind}
use Rattle.prt_route.specs.declared.kind.Kind.TheVariants.{Unicast}
use Rattle.prt_route.specs.declared.route.Route.{Route}
use Rattle.prt_rule.specs.declared.choice.RuleChoice.{RuleChoice}
use Rattle.prt_rule.specs.declared.packet.Packet.{Packet}
use Rattle.prt_rule.specs.declared.rule.Action.{Action}
use Rattle.prt_rule.specs.declared.rule.Action.TheVariants.{Lookup}
use Rattle.prt_command.specs.Then.{◌>>=◌}
use Rattle.prt_command.specs.Items.{is_empty}
use Rattle.prt_command.specs.declared.item.Items.{Items}
use Rattle.prt_command.specs.declared.item.Target.{Target}
use Rattle.prt_command.specs.declared.item.WhichTables.{WhichTables}
use Rattle.prt_command.specs.declared.item.WhichTables.TheVariants.{One, All}
use Rattle.prt_command.specs.declared.request.Command.{Command}
use Rattle.prt_command.specs.declared.request.Command.TheVariants.{RouteDel, RouteFlush, RuleAdd, RuleDel}
use Rattle.prt_command.specs.declared.request.NewRule.{NewRule}
use Rattle.prt_command.specs.declared.request.Query.TheVariants.{RouteShow, Get}
use Rattle.prt_command.specs.declared.request.Request.{Request}
use Rattle.prt_command.specs.declared.request.Request.TheVariants as requests

abbrev pub refuse_if : Bool → Refusal → Result (Unit {0}) Refusal
refuse_if test refusal = if test then Err refusal else Ok tt

-- what good items ask for together, or their fault
abbrev pub Asks : Type 0
Asks = Items → Result Request Refusal

-- at least one item has to be given
abbrev pub unless_empty : Items → Command → Result Request Refusal
unless_empty items command = refuse_if (is_empty items) TooBroad >>= λ _. Ok (requests.Command command)

-- ---- a route to be put

abbrev pub is_unicast : Kind → Bool
is_unicast kind = is_same_kind Unicast kind

-- a gateway or an interface
abbrev pub has_next_hop : Items → Bool
has_next_hop items = is_some items.via || is_some items.dev

-- a unicast route has the scope that is given, else global through a gateway and link without one; a route of another kind has scope global
abbrev pub scope_of : Kind → Option Addr → Option ℕ → ℕ
scope_of kind via scope = if is_unicast kind then unwrap_or scope (if is_some via then global_scope else link_scope) else global_scope

-- a route of protocol boot, in table main with metric 0 if none are given
abbrev pub route_of : Items → Kind → Block → Route
route_of items kind prefix = record {
  table = unwrap_or items.table main_table;
  prefix = prefix;
  metric = unwrap_or items.metric 0;
  kind = kind;
  via = items.via;
  dev = items.dev;
  src = items.src;
  proto = unwrap_or items.proto boot_protocol;
  scope = scope_of kind items.via items.scope;
}

-- a unicast route needs a next hop, and a route of another kind has none, and no source to prefer
abbrev pub route_by : Items → Kind → Block → Result Route Refusal
route_by items kind prefix =
    refuse_if (is_unicast kind && not (has_next_hop items)) NoNextHop >>= λ _.
    refuse_if (not (is_unicast kind) && (has_next_hop items || is_some items.src)) NextHopNotAllowed >>= λ _.
    Ok (route_of items kind prefix)

-- the kind is unicast if none is given
abbrev pub new_route : Items → Result Route Refusal
new_route items = ok_or items.destination MissingDestination >>= λ target. route_by items (unwrap_or target.kind Unicast) target.prefix

-- what add, change and replace ask for
abbrev pub route_request : (Route → Command) → Asks
route_request command items = new_route items >>= λ route. Ok (requests.Command (command route))

-- ---- routes that are there

-- the table is main if none is given, and a metric of 0 counts as not given
abbrev pub route_choice : Items → Target → RouteChoice
route_choice items target = record {
  table = unwrap_or items.table main_table;
  prefix = target.prefix;
  metric = keep (λ metric. nat_lt 0 metric) items.metric;
  kind = target.kind;
  via = items.via;
  dev = items.dev;
  src = items.src;
  proto = items.proto;
  scope = items.scope;
}

abbrev pub route_del_request : Asks
route_del_request items = ok_or items.destination MissingDestination >>= λ target. Ok (requests.Command (RouteDel (route_choice items target)))

-- main if none is given
abbrev pub selected_table : Option WhichTables → Option ℕ
selected_table None = Some main_table
selected_table (Some All) = None
selected_table (Some (One table)) = Some table

abbrev pub selector_of : Items → Selector
selector_of items = record {
  table = selected_table items.tables;
  range = unwrap_or items.range ranges.All;
  kind = items.of_kind;
  proto = items.proto;
  scope = items.scope;
  dev = items.dev;
}

abbrev pub route_flush_request : Asks
route_flush_request items = unless_empty items (RouteFlush (selector_of items))

abbrev pub route_show_request : Asks
route_show_request items = Ok (requests.Query (RouteShow (selector_of items)))

-- ---- a packet

-- a packet from 0.0.0.0 that came in by lo without a mark (0), if nothing else is given
abbrev pub packet_of : Items → Addr → Packet
packet_of items dst = record {
  dst = dst;
  src = unwrap_or items.source (record { 0 = 0 });
  iif = unwrap_or items.iif (codes "lo");
  mark = unwrap_or items.mark 0;
}

abbrev pub route_get_request : Asks
route_get_request items = ok_or items.address MissingDestination >>= λ dst. Ok (requests.Query (Get (packet_of items dst)))

-- ---- rules

-- a rule for all sources and destinations that looks up table main, if nothing else is given
abbrev pub rule_of : Items → NewRule
rule_of items = record {
  priority = items.priority;
  inverted = items.inverted;
  from = unwrap_or items.from everything;
  to = unwrap_or items.to everything;
  iif = items.iif;
  mark = items.fwmark;
  action = unwrap_or items.action (Lookup main_table);
  suppress = items.suppress;
}

-- the action is to look up a table
abbrev pub is_lookup : Action → Bool
is_lookup (Lookup table) = true
is_lookup _ = false

-- prefixes are suppressed only in a lookup
abbrev pub suppresses_without_lookup : NewRule → Bool
suppresses_without_lookup rule = is_some rule.suppress && not (is_lookup rule.action)

abbrev pub rule_add_request : Asks
rule_add_request items = refuse_if (suppresses_without_lookup (rule_of items)) SuppressNotAllowed >>= λ _. Ok (requests.Command (RuleAdd (rule_of items)))

abbrev pub rule_choice : Items → RuleChoice
rule_choice items = record {
  priority = items.priority;
  inverted = items.inverted;
  from = items.from;
  to = items.to;
  iif = items.iif;
  mark = items.fwmark;
  action = items.action;
  suppress = items.suppress;
}

abbrev pub rule_del_request : Asks
rule_del_request items = unless_empty items (RuleDel (rule_choice items))
