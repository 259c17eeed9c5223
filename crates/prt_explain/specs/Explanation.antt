-- Why a packet goes where it goes: the rules that are tried, what each one finds, and the answer.
use Rattle.std.specs.Prelude.{ℕ, Bool, true, false, not, nat_lt, if◌then◌else◌, List, [], ◌∷◌, ◌++◌, map, filter, Option, Some, None, is_some, codes, decimal}
use Rattle.std.specs.List.{flat_map}
use Rattle.prt_addr.specs.Addr.{addr_text}
use Rattle.prt_addr.specs.Order.{first_by}
use Rattle.prt_addr.specs.Prefix.{contains, prefix_text}
use Rattle.prt_addr.specs.declared.addr.Addr.{Addr}
use Rattle.prt_route.specs.Best.{best, candidates}
use Rattle.prt_route.specs.Route.{is_better}
use Rattle.prt_route.specs.declared.route.Route.{Route}
use Rattle.prt_rule.specs.Rule.{matches, takes_interface, takes_mark}
use Rattle.prt_rule.specs.declared.packet.Packet.{Packet}
use Rattle.prt_rule.specs.declared.rule.Action.{Action}
use Rattle.prt_rule.specs.declared.rule.Action.TheVariants.{Lookup}
use Rattle.prt_rule.specs.declared.rule.Rule.{Rule}
use Rattle.prt_listing.specs.AnswerText.{answer_text}
use Rattle.prt_listing.specs.Parts.{hex_text, part, table_text}
use Rattle.prt_listing.specs.QueryText.{lines_text}
use Rattle.prt_listing.specs.RouteText.{route_text}
use Rattle.prt_listing.specs.RuleText.{mark_part, rule_text}
use Rattle.prt_listing.specs.declared.route.TablePart.TheVariants.{LeftOut}
use Rattle.prt_version.specs.Select.{decision, is_throw, select, suppresses}
use Rattle.prt_version.specs.State.{State}

-- the bytes of a line, without its newline
abbrev pub Line : Type 0
Line = List ℕ

-- ---- what is asked

-- packet to ADDR from ADDR iif NAME mark NUMBER
abbrev pub packet_text : Packet → Line
packet_text packet =
    codes "packet to " ++ addr_text packet.dst
    ++ codes " from " ++ addr_text packet.src
    ++ codes " iif " ++ packet.iif
    ++ codes " mark " ++ hex_text packet.mark

-- ---- whether a rule matches

-- the first part of the selector that the packet doesn't agree with, in the order of a rule's text
abbrev pub first_mismatch : Rule → Packet → Option (List ℕ)
first_mismatch rule packet =
    if not (contains rule.from packet.src) then Some (codes "from " ++ prefix_text rule.from) else
    if not (contains rule.to packet.dst) then Some (codes "to " ++ prefix_text rule.to) else
    if not (takes_mark rule.mark packet.mark) then mark_part rule.mark else
    if not (takes_interface rule.iif packet.iif) then part (codes "iif") rule.iif else
    None

-- Of a rule, by whether it is inverted and by its first mismatch: why it doesn't match, or why an inverted one does.
abbrev pub match_notes : Bool → Option (List ℕ) → List Line
match_notes false None = []
match_notes false (Some selector) = (codes "no: " ++ selector) ∷ []
match_notes true None = codes "no: all of it holds, and 'not' turns that round" ∷ []
match_notes true (Some selector) = (codes "yes: not " ++ selector) ∷ []

-- ---- what a lookup finds

-- the best of the table's routes for the address that this one is better than
abbrev pub runner_up : Route → List Route → ℕ → Addr → Option Route
runner_up route routes table addr = first_by is_better (filter (is_better route) (candidates routes table addr))

-- why it is better than the other one
abbrev pub advantage : Route → Route → List ℕ
advantage route other = if nat_lt other.prefix.len route.prefix.len then codes "longer prefix" else codes "lower metric"

-- before ROUTE: ADVANTAGE
abbrev pub runner_up_notes : Route → Option Route → List Line
runner_up_notes route None = []
runner_up_notes route (Some other) = (codes "before " ++ route_text other LeftOut ++ codes ": " ++ advantage route other) ∷ []

-- why a rule says nothing if it finds the route
abbrev pub silence_notes : Option ℕ → Route → List Line
silence_notes suppress route =
    if is_throw route.kind then codes "throw: the lookup ends here, and the rule says nothing" ∷ [] else
    if suppresses suppress route then (codes "suppressed: its prefix length is " ++ decimal route.prefix.len) ∷ [] else
    []

-- table TABLE: ROUTE, the runner-up, and why the rule says nothing
abbrev pub found_notes : Option ℕ → ℕ → Route → Option Route → List Line
found_notes suppress table route other =
    (codes "table " ++ table_text table ++ codes ": " ++ route_text route LeftOut)
    ∷ (runner_up_notes route other ++ silence_notes suppress route)

-- the same of the best route, or table TABLE: no route
abbrev pub lookup_notes : Option ℕ → ℕ → Option Route → List Route → Addr → List Line
lookup_notes suppress table None routes addr = (codes "table " ++ table_text table ++ codes ": no route") ∷ []
lookup_notes suppress table (Some route) routes addr = found_notes suppress table route (runner_up route routes table addr)

-- what a matching rule finds in its table, or that it decides by itself
abbrev pub action_notes : Action → Option ℕ → List Route → Addr → List Line
action_notes (Lookup table) suppress routes addr = lookup_notes suppress table (best routes table addr) routes addr
action_notes action suppress routes addr = codes "the rule itself decides" ∷ []

-- ---- the explanation

-- whether the rule matches, and what it does if it does
abbrev pub rule_notes : Rule → List Route → Packet → List Line
rule_notes rule routes packet =
    match_notes rule.inverted (first_mismatch rule packet)
    ++ (if matches rule packet then action_notes rule.action rule.suppress routes packet.dst else [])

-- the rule as `rule show` shows it, and under it each note after a tab
abbrev pub rule_lines : Rule → List Route → Packet → List Line
rule_lines rule routes packet = rule_text rule ∷ map (λ note. codes "\t" ++ note) (rule_notes rule routes packet)

-- the rules that are tried: up to the first that decides, and that one
abbrev pub asked_rules : List Rule → List Route → Packet → List Rule
asked_rules [] routes packet = []
asked_rules (rule ∷ rules) routes packet = rule ∷ (if is_some (decision rule routes packet) then [] else asked_rules rules routes packet)

-- the packet, the rules that are tried, and the answer
abbrev pub explanation_lines : State → Packet → List Line
explanation_lines state packet =
    packet_text packet
    ∷ (flat_map (λ rule. rule_lines rule state.routes packet) (asked_rules state.rules state.routes packet)
    ++ answer_text (record { number = state.count; verdict = select state packet }) ∷ [])

abbrev pub explanation_text : State → Packet → List ℕ
explanation_text state packet = lines_text (explanation_lines state packet)
