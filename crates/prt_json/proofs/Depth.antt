-- How deep the documents nest: no deeper than a reader goes.
use Rattle.std.proofs.Common.{◌≡◌, ℕ, ◌≤◌, Bool, true, false, List, [], ◌∷◌, ◌++◌, Option, Some, None, Result, Ok, Err, OnOk, cond, map, option_and_then, sym, ap, ◌∙◌, arith, append-nil}
use Rattle.std.specs.List.{AllByRecursion as Each}
use Rattle.std.specs.Prelude.{⊤, codes}
use Rattle.json.specs.Json.{Json, if_last, max_depth, value}
use Rattle.json.specs.Lex.{tokens}
use Rattle.json.specs.Tree.{depth, items_depth, json_tokens, members_depth}
use Rattle.json.proofs.Printed.Trees.{value-json_tokens}
use Rattle.prt_addr.specs.declared.addr.Addr.{Addr}
use Rattle.prt_route.specs.Best.{best}
use Rattle.prt_route.specs.declared.choice.Selector.{Selector}
use Rattle.prt_route.specs.declared.route.Route.{Route}
use Rattle.prt_rule.specs.Rule.{matches}
use Rattle.prt_rule.specs.declared.packet.Packet.{Packet}
use Rattle.prt_rule.specs.declared.rule.Action.{Action}
use Rattle.prt_rule.specs.declared.rule.Action.TheVariants.{Lookup, Blackhole, Unreachable, Prohibit}
use Rattle.prt_rule.specs.declared.rule.Rule.{Rule}
use Rattle.prt_version.specs.Listing.{listing}
use Rattle.prt_version.specs.Select.{select, suppresses}
use Rattle.prt_version.specs.State.{State}
use Rattle.prt_version.specs.declared.answer.Verdict.{Verdict}
use Rattle.prt_version.specs.declared.answer.Verdict.TheVariants as verdict
use Rattle.prt_explain.specs.Explanation.{asked_rules, runner_up}
use Rattle.prt_json.specs.AnswerJson.{answers, drop_answer, route_answer}
use Rattle.prt_json.specs.ExplanationJson.{asked_json, decides, explanation_json, found_fields, lookup_fields, match_fields, packet_fields, route_field, truth_field}
use Rattle.prt_json.specs.Fields.{Member, ReadsBack, items, json_text, members, number_field, object_of, text_field}
use Rattle.prt_json.specs.Json.{all_tables, answer_json, routes_json, rules_json, tables_json}
use Rattle.prt_json.specs.RouteJson.{route_fields, route_json}
use Rattle.prt_json.specs.RuleJson.{action_field, not_field, rule_fields, rule_json}
use Rattle.prt_json.specs.Steps.{document_json}
use Rattle.prt_json.specs.declared.document.Document.{Document}
use Rattle.prt_json.specs.declared.document.Document.TheVariants as document

-- ---- fields

-- the value of the field, if it is there, nests at most one deep
abbrev IsFlat : Option Member → Type 0
IsFlat None = ⊤
IsFlat (Some field) = depth field.1 ≤ 1

members_depth-flat : (fields : List (Option Member)) → Each IsFlat fields → members_depth (members fields) ≤ 1
members_depth-flat [] flat = omega arith
members_depth-flat (None ∷ fields) flat = members_depth-flat fields flat.1
members_depth-flat (Some field ∷ fields) flat = let here : depth field.1 ≤ 1 = flat.0 in let rest = members_depth-flat fields flat.1 in omega arith

object-shallow : (fields : List (Option Member)) → Each IsFlat fields → depth (object_of fields) ≤ 2
object-shallow fields flat = let inside = members_depth-flat fields flat in omega arith

text : (name : List ℕ) (o : Option (List ℕ)) → IsFlat (text_field name o)
text name None = tt
text name (Some s) = omega arith

number : (name : List ℕ) (o : Option ℕ) → IsFlat (number_field name o)
number name None = tt
number name (Some n) = omega arith

not-flat : (inverted : Bool) → IsFlat (not_field inverted)
not-flat true = omega arith
not-flat false = tt

action-flat : (action : Action) → IsFlat (action_field action)
action-flat (Lookup table) = omega arith
action-flat Blackhole = omega arith
action-flat Unreachable = omega arith
action-flat Prohibit = omega arith

-- a field that is there, with a text or a number, and one with an empty array
there : 0 ≤ 1
there = omega arith

empty : 1 ≤ 1
empty = omega arith

route-shallow : (selector : Selector) (route : Route) → depth (route_json selector route) ≤ 2
route-shallow selector route = object-shallow (route_fields selector route)
    (text _ _, (there, (text _ _, (text _ _, (text _ _, (text _ _, (text _ _, (text _ _, (number _ _, (empty, tt))))))))))

rule-shallow : (rule : Rule) → depth (rule_json rule) ≤ 2
rule-shallow rule = object-shallow (rule_fields rule)
    (there, (not-flat rule.inverted, (there, (number _ _, (text _ _, (number _ _, (text _ _, (text _ _, (text _ _, (action-flat rule.action, (number _ _, tt)))))))))))

-- ---- documents

items_depth-map : {X : Type 0} (n : ℕ) (f : X → Json) (rows : List X) → ((row : X) → depth (f row) ≤ n) → items_depth (items (map f rows)) ≤ n
items_depth-map n f [] shallow = omega arith
items_depth-map n f (row ∷ rows) shallow = let here = shallow row in let rest = items_depth-map n f rows shallow in omega arith

routes-shallow : (state : State) (selector : Selector) → depth (routes_json state selector) ≤ 3
routes-shallow state selector = let inside = items_depth-map 2 (route_json selector) (listing selector state.routes) (route-shallow selector) in omega arith

rules-shallow : (state : State) → depth (rules_json state) ≤ 3
rules-shallow state = let inside = items_depth-map 2 rule_json state.rules rule-shallow in omega arith

answers-shallow : (packet : Packet) (v : Verdict) → items_depth (items (answers packet v)) ≤ 2
answers-shallow packet (verdict.Route priority route) =
    let one = object-shallow (route_answer packet route) (text _ _, (there, (text _ _, (text _ _, (text _ _, (text _ _, (text _ _, (empty, (number _ _, (empty, (text _ _, tt))))))))))) in
    omega arith
answers-shallow packet (verdict.RuleSays priority action) =
    let one = object-shallow (drop_answer packet action) (text _ _, (there, (text _ _, (empty, (number _ _, (empty, (text _ _, tt))))))) in
    omega arith
answers-shallow packet verdict.NoRoute = omega arith

answer-shallow : (state : State) (packet : Packet) → depth (answer_json state packet) ≤ 3
answer-shallow state packet = let inside = answers-shallow packet (select state packet) in omega arith

tables-shallow : (state : State) → depth (tables_json state) ≤ 4
tables-shallow state = let rules = rules-shallow state in let routes = routes-shallow state all_tables in omega arith

packet-shallow : (packet : Packet) → depth (object_of (packet_fields packet)) ≤ 2
packet-shallow packet = object-shallow (packet_fields packet) (there, (there, (there, (there, tt))))

members_depth-both : (n : ℕ) (fields others : List (Option Member)) → members_depth (members fields) ≤ n → members_depth (members others) ≤ n → members_depth (members (fields ++ others)) ≤ n
members_depth-both n [] others first second = second
members_depth-both n (None ∷ fields) others first second = members_depth-both n fields others first second
members_depth-both n (Some field ∷ fields) others first second =
    let inside : members_depth (members fields) ≤ n = omega arith in
    let rest = members_depth-both n fields others inside second in
    omega arith

found_by : (suppressed : Bool) (route : Route) (other : Option Route) → members_depth (members (route_field (codes "found") (Some route) ∷ route_field (codes "runner_up") other ∷ truth_field (codes "suppressed") suppressed ∷ [])) ≤ 2
found_by suppressed route None = let one = route-shallow all_tables route in omega arith
found_by suppressed route (Some other) = let one = route-shallow all_tables route in let next = route-shallow all_tables other in omega arith

found-shallow : (suppress : Option ℕ) (table : ℕ) (routes : List Route) (addr : Addr) (first : Option Route) → members_depth (members (found_fields suppress table routes addr first)) ≤ 2
found-shallow suppress table routes addr None = omega arith
found-shallow suppress table routes addr (Some route) = found_by (suppresses suppress route) route (runner_up route routes table addr)

lookup-shallow : (action : Action) (suppress : Option ℕ) (routes : List Route) (addr : Addr) → members_depth (members (lookup_fields action suppress routes addr)) ≤ 2
lookup-shallow (Lookup table) suppress routes addr = found-shallow suppress table routes addr (best routes table addr)
lookup-shallow Blackhole suppress routes addr = omega arith
lookup-shallow Unreachable suppress routes addr = omega arith
lookup-shallow Prohibit suppress routes addr = omega arith

chosen-shallow : (b : Bool) (fields : List (Option Member)) → members_depth (members fields) ≤ 2 → members_depth (members (cond b fields [])) ≤ 2
chosen-shallow true fields shallow = shallow
chosen-shallow false fields shallow = omega arith

asked-shallow : (routes : List Route) (packet : Packet) (rule : Rule) → depth (asked_json routes packet rule) ≤ 3
asked-shallow routes packet rule =
    let looked : List (Option Member) = lookup_fields rule.action rule.suppress routes packet.dst in
    let last : List (Option Member) = truth_field (codes "decides") (decides routes packet rule) ∷ [] in
    let matching : List (Option Member) = cond (matches rule packet) looked [] in
    let fields : members_depth (members (rule_fields rule)) ≤ 2 = let rule-is = rule-shallow rule in omega arith in
    let match-is : members_depth (members (match_fields rule packet)) ≤ 2 = let flat = members_depth-flat (match_fields rule packet) (there, (text _ _, tt)) in omega arith in
    let last-is : members_depth (members last) ≤ 2 = omega arith in
    let more = members_depth-both 2 matching last (chosen-shallow (matches rule packet) looked (lookup-shallow rule.action rule.suppress routes packet.dst)) last-is in
    let all = members_depth-both 2 (rule_fields rule) (match_fields rule packet ++ (matching ++ last)) fields (members_depth-both 2 (match_fields rule packet) (matching ++ last) match-is more) in
    omega arith

explanation-shallow : (state : State) (packet : Packet) → depth (explanation_json state packet) ≤ 5
explanation-shallow state packet =
    let asked = packet-shallow packet in
    let rules = items_depth-map 3 (asked_json state.routes packet) (asked_rules state.rules state.routes packet) (asked-shallow state.routes packet) in
    let answer = answer-shallow state packet in
    omega arith

document-shallow : (state : State) (d : Document) → depth (document_json state d) ≤ max_depth
document-shallow state (document.Routes selector) = let shallow = routes-shallow state selector.now in omega arith
document-shallow state document.Rules = let shallow = rules-shallow state in omega arith
document-shallow state (document.Answer packet) = let shallow = answer-shallow state packet.now in omega arith
document-shallow state (document.Explanation packet) = let shallow = explanation-shallow state packet.now in omega arith
document-shallow state document.Tables = let shallow = tables-shallow state in omega arith

-- what holds anyhow holds after a success
pub anyhow : {T E : Type 0} (result : Result T E) (P : Type 0) → P → OnOk result P
anyhow (Ok value) P holds = holds
anyhow (Err reason) P holds = tt

-- its text reads as the value, if the tokens are those of the text
pub reads_back : (state : State) (d : Document) → tokens (json_text (document_json state d)) ≡ json_tokens (document_json state d) → ReadsBack (document_json state d)
reads_back state d same =
    ap (option_and_then (λ p. if_last p.0 p.1))
    (ap (value max_depth) (same ∙ sym (append-nil (json_tokens (document_json state d)))) ∙ value-json_tokens (document_json state d) max_depth [] (document-shallow state d))
