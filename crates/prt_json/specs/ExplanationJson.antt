-- Why a packet goes where it goes. `ip` prints nothing of this: rules, routes and the answer have its fields, the others are our own.
use Rattle.std.specs.Prelude.{ℕ, Bool, if◌then◌else◌, List, [], ◌∷◌, ◌++◌, map, Option, Some, None, option_map, is_some, codes}
use Rattle.std.specs.Str.Lossy.{utf8_lossy}
use Rattle.prt_addr.specs.Addr.{addr_text}
use Rattle.prt_addr.specs.declared.addr.Addr.{Addr}
use Rattle.prt_route.specs.Best.{best}
use Rattle.prt_route.specs.declared.route.Route.{Route}
use Rattle.prt_rule.specs.Rule.{matches}
use Rattle.prt_rule.specs.declared.packet.Packet.{Packet}
use Rattle.prt_rule.specs.declared.rule.Action.{Action}
use Rattle.prt_rule.specs.declared.rule.Action.TheVariants.{Lookup}
use Rattle.prt_rule.specs.declared.rule.Rule.{Rule}
use Rattle.prt_version.specs.Select.{decision, suppresses}
use Rattle.prt_version.specs.State.{State}
use Rattle.prt_explain.specs.Explanation.{asked_rules, first_mismatch, runner_up}
use Rattle.json.specs.Json.{Json, boolean}
use Rattle.prt_json.specs.Fields.{Member, array_of, dev_field, number_field, object_of, text_field}
use Rattle.prt_json.specs.Json.{all_tables, answer_json}
use Rattle.prt_json.specs.RouteJson.{route_json}
use Rattle.prt_json.specs.RuleJson.{rule_fields}

-- ---- what is asked

-- each part of the packet, also those that an answer leaves out
abbrev pub packet_fields : Packet → List (Option Member)
packet_fields packet =
    text_field (codes "dst") (Some (addr_text packet.dst))
    ∷ text_field (codes "src") (Some (addr_text packet.src))
    ∷ dev_field (codes "iif") (Some packet.iif)
    ∷ number_field (codes "mark") (Some packet.mark)
    ∷ []

-- ---- the fields of a rule that is tried

-- a field with true or false
abbrev pub truth_field : List ℕ → Bool → Option Member
truth_field name b = Some (name, boolean b)

-- a field with a route as `ip -j route show table all` shows it, if there is one
abbrev pub route_field : List ℕ → Option Route → Option Member
route_field name route = option_map (λ r. (name, route_json all_tables r)) route

-- whether the rule matches, and the first part of its selector that the packet doesn't agree with; U+FFFD is written for what is no UTF-8 in it
abbrev pub match_fields : Rule → Packet → List (Option Member)
match_fields rule packet =
    truth_field (codes "matches") (matches rule packet)
    ∷ text_field (codes "mismatch") (option_map utf8_lossy (first_mismatch rule packet))
    ∷ []

-- the best route of the table, the next one, and whether the rule says nothing since it suppresses the best one
abbrev pub found_fields : Option ℕ → ℕ → List Route → Addr → Option Route → List (Option Member)
found_fields suppress table routes addr None = []
found_fields suppress table routes addr (Some route) =
    route_field (codes "found") (Some route)
    ∷ route_field (codes "runner_up") (runner_up route routes table addr)
    ∷ truth_field (codes "suppressed") (suppresses suppress route)
    ∷ []

-- what a matching rule finds in its table
abbrev pub lookup_fields : Action → Option ℕ → List Route → Addr → List (Option Member)
lookup_fields (Lookup table) suppress routes addr = found_fields suppress table routes addr (best routes table addr)
lookup_fields action suppress routes addr = []

-- whether the rule decides what becomes of the packet
abbrev pub decides : List Route → Packet → Rule → Bool
decides routes packet rule = is_some (decision rule routes packet)

-- the rule as `rule show` shows it, and behind that what it does with the packet
abbrev pub asked_fields : List Route → Packet → Rule → List (Option Member)
asked_fields routes packet rule =
    rule_fields rule
    ++ (match_fields rule packet
    ++ ((if matches rule packet then lookup_fields rule.action rule.suppress routes packet.dst else [])
    ++ truth_field (codes "decides") (decides routes packet rule) ∷ []))

abbrev pub asked_json : List Route → Packet → Rule → Json
asked_json routes packet rule = object_of (asked_fields routes packet rule)

-- ---- the explanation

-- the rules that are tried: up to the first that decides, and that one
abbrev pub asked_rules_json : State → Packet → Json
asked_rules_json state packet = array_of (map (asked_json state.routes packet) (asked_rules state.rules state.routes packet))

-- the packet, the rules that are tried, and the answer
abbrev pub explanation_json : State → Packet → Json
explanation_json state packet =
    object_of
    (Some (codes "packet", object_of (packet_fields packet))
    ∷ Some (codes "rules", asked_rules_json state packet)
    ∷ Some (codes "answer", answer_json state packet)
    ∷ [])
