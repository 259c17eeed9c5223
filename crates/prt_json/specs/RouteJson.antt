-- A route as `ip -j route show` shows it: ip-route(8).
use Rattle.std.specs.Prelude.{ℕ, ◌==◌, if◌then◌else◌, List, [], ◌∷◌, Option, Some, None, option_map, codes}
use Rattle.prt_addr.specs.Addr.{addr_text}
use Rattle.prt_addr.specs.Block.{Block}
use Rattle.prt_addr.specs.declared.addr.Addr.{Addr}
use Rattle.prt_route.specs.Names.{boot_protocol, global_scope, main_table, protocols, scopes}
use Rattle.prt_route.specs.declared.choice.Selector.{Selector}
use Rattle.prt_route.specs.declared.kind.Kind.{Kind}
use Rattle.prt_route.specs.declared.route.Route.{Route}
use Rattle.prt_listing.specs.Parts.{name_or_number, prefix_or, table_text, unless}
use Rattle.prt_listing.specs.RouteText.{kind_part}
use Rattle.json.specs.Json.{Json}
use Rattle.prt_json.specs.Fields.{Member, dev_field, empty_field, number_field, object_of, text_field}

-- what a selector gives is implied
abbrev pub unless_given : {X Y : Type 0} → Option X → Option Y → Option Y
unless_given None shown = shown
unless_given (Some given) shown = None

-- the kind, except for unicast
abbrev pub type_field : Kind → Option Member
type_field kind = text_field (codes "type") (kind_part kind)

-- the destinations; `default` for 0.0.0.0/0
abbrev pub destinations_field : Block → Option Member
destinations_field prefix = text_field (codes "dst") (Some (prefix_or (codes "default") prefix))

abbrev pub gateway_field : Option Addr → Option Member
gateway_field via = text_field (codes "gateway") (option_map addr_text via)

-- the interface, unless one is given
abbrev pub route_dev_field : Option (List ℕ) → Option (List ℕ) → Option Member
route_dev_field given dev = dev_field (codes "dev") (unless_given given dev)

-- the table, unless one is given, and except for main
abbrev pub table_field : Option ℕ → ℕ → Option Member
table_field given table = text_field (codes "table") (unless_given given (unless main_table table (table_text table)))

-- the protocol, unless one is given, and except for boot
abbrev pub protocol_field : Option ℕ → ℕ → Option Member
protocol_field given proto = text_field (codes "protocol") (unless_given given (unless boot_protocol proto (name_or_number protocols proto)))

-- the scope, unless one is given, and except for global
abbrev pub scope_field : Option ℕ → ℕ → Option Member
scope_field given scope = text_field (codes "scope") (unless_given given (unless global_scope scope (name_or_number scopes scope)))

-- the source address to prefer
abbrev pub prefsrc_field : Option Addr → Option Member
prefsrc_field src = text_field (codes "prefsrc") (option_map addr_text src)

-- the metric, except for 0
abbrev pub metric_field : ℕ → Option Member
metric_field metric = number_field (codes "metric") (if metric == 0 then None else Some metric)

-- in the order in which they are shown
abbrev pub route_fields : Selector → Route → List (Option Member)
route_fields selector route =
    type_field route.kind
    ∷ destinations_field route.prefix
    ∷ gateway_field route.via
    ∷ route_dev_field selector.dev route.dev
    ∷ table_field selector.table route.table
    ∷ protocol_field selector.proto route.proto
    ∷ scope_field selector.scope route.scope
    ∷ prefsrc_field route.src
    ∷ metric_field route.metric
    ∷ empty_field (codes "flags")
    ∷ []

abbrev pub route_json : Selector → Route → Json
route_json selector route = object_of (route_fields selector route)
