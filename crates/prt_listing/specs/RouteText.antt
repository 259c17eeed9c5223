-- The text of a route: ip-route(8).
use Rattle.std.specs.Prelude.{ℕ, List, [], ◌∷◌, Option, Some, None, option_map, codes, decimal}
use Rattle.prt_addr.specs.Addr.{addr_text}
use Rattle.prt_route.specs.Kind.{kind_name}
use Rattle.prt_route.specs.Names.{boot_protocol, global_scope, main_table, protocols, scopes}
use Rattle.prt_route.specs.declared.kind.Kind.{Kind}
use Rattle.prt_route.specs.declared.kind.Kind.TheVariants.{Unicast}
use Rattle.prt_route.specs.declared.route.Route.{Route}
use Rattle.prt_listing.specs.Parts.{name_or_number, part, prefix_or, spaced, table_text, unless}
use Rattle.prt_listing.specs.declared.route.TablePart.{TablePart}
use Rattle.prt_listing.specs.declared.route.TablePart.TheVariants.{Shown, LeftOut}

-- the kind, except for unicast
abbrev pub kind_part : Kind → Option (List ℕ)
kind_part Unicast = None
kind_part kind = Some (kind_name kind)

-- the table, if it is shown, except for main
abbrev pub table_part : TablePart → ℕ → Option (List ℕ)
table_part Shown table = part (codes "table") (unless main_table table (table_text table))
table_part LeftOut table = None

-- the protocol, except for boot
abbrev pub protocol_part : ℕ → Option (List ℕ)
protocol_part proto = part (codes "proto") (unless boot_protocol proto (name_or_number protocols proto))

-- the scope, except for global
abbrev pub scope_part : ℕ → Option (List ℕ)
scope_part scope = part (codes "scope") (unless global_scope scope (name_or_number scopes scope))

-- the metric, except for 0
abbrev pub metric_part : ℕ → Option (List ℕ)
metric_part metric = part (codes "metric") (unless 0 metric (decimal metric))

-- in the order in which they are shown
abbrev pub route_parts : Route → TablePart → List (Option (List ℕ))
route_parts route table =
    kind_part route.kind
    ∷ Some (prefix_or (codes "default") route.prefix)
    ∷ part (codes "via") (option_map addr_text route.via)
    ∷ part (codes "dev") route.dev
    ∷ table_part table route.table
    ∷ protocol_part route.proto
    ∷ scope_part route.scope
    ∷ part (codes "src") (option_map addr_text route.src)
    ∷ metric_part route.metric
    ∷ []

-- [KIND] PREFIX [via ADDR] [dev NAME] [table TABLE] [proto PROTO] [scope SCOPE] [src ADDR] [metric NUMBER]
abbrev pub route_text : Route → TablePart → List ℕ
route_text route table = spaced (route_parts route table)
