-- What a state is as JSON, in the fields of `ip -j`.
use Rattle.std.specs.Prelude.{[], ◌∷◌, map, Some, None, codes}
use Rattle.prt_route.specs.declared.choice.Range.TheVariants.{All}
use Rattle.prt_route.specs.declared.choice.Selector.{Selector}
use Rattle.prt_rule.specs.declared.packet.Packet.{Packet}
use Rattle.prt_version.specs.Listing.{listing}
use Rattle.prt_version.specs.Select.{select}
use Rattle.prt_version.specs.State.{State}
use Rattle.json.specs.Json.{Json}
use Rattle.prt_json.specs.AnswerJson.{answers}
use Rattle.prt_json.specs.Fields.{array_of, number_field, object_of}
use Rattle.prt_json.specs.RouteJson.{route_json}
use Rattle.prt_json.specs.RuleJson.{rule_json}

-- the routes that the selector takes, in the order of listings
abbrev pub routes_json : State → Selector → Json
routes_json state selector = array_of (map (route_json selector) (listing selector state.routes))

-- the rules in the order in which they are tried
abbrev pub rules_json : State → Json
rules_json state = array_of (map rule_json state.rules)

-- what becomes of the packet
abbrev pub answer_json : State → Packet → Json
answer_json state packet = array_of (answers packet (select state packet))

-- each route of each table
abbrev pub all_tables : Selector
all_tables = record { table = None; range = All; kind = None; proto = None; scope = None; dev = None }

-- how many commands were accepted, the rules, and the routes of all tables
abbrev pub tables_json : State → Json
tables_json state =
    object_of (number_field (codes "number") (Some state.count) ∷ Some (codes "rules", rules_json state)
    ∷ Some (codes "routes", routes_json state all_tables) ∷ [])
