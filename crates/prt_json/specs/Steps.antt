-- What the parts of the program denote.
use Rattle.std.specs.Prelude.{List, [], ◌∷◌, ◌++◌, Option, Some, None, map, option_map, decimal}
use Rattle.std.specs.Str.Lossy.{utf8_lossy}
use Rattle.prt_addr.specs.Addr.{addr_text}
use Rattle.prt_addr.specs.Prefix.{prefix_text}
use Rattle.json.specs.Json.{Json, null, boolean, string, number, array, no_items}
use Rattle.json.specs.Token.{Token, key}
use Rattle.json.specs.Tree.{json_tokens}
use Rattle.prt_route.specs.declared.route.Route.{Route}
use Rattle.prt_rule.specs.declared.packet.Packet.{Packet}
use Rattle.prt_rule.specs.declared.rule.Rule.{Rule}
use Rattle.prt_listing.specs.Steps.{part_text}
use Rattle.prt_version.specs.State.{State}
use Rattle.prt_explain.specs.Explanation.{asked_rules}
use Rattle.prt_json.specs.ExplanationJson.{asked_json, explanation_json}
use Rattle.prt_json.specs.Fields.{Member}
use Rattle.prt_json.specs.Json.{answer_json, routes_json, rules_json, tables_json}
use Rattle.prt_json.specs.RuleJson.{hexadecimal}
use Rattle.prt_json.specs.declared.document.Document.{Document}
use Rattle.prt_json.specs.declared.document.Document.TheVariants as document
use Rattle.prt_json.specs.declared.field.Field.{Field}
use Rattle.prt_json.specs.declared.field.Value.{Value}
use Rattle.prt_json.specs.declared.field.Value.TheVariants as value

abbrev pub value_json : Value → Json
value_json value.Null = null
value_json value.Empty = array no_items
value_json (value.Truth b) = boolean b
value_json (value.Number n) = number (decimal n)
value_json (value.Name name) = string name.now
value_json (value.Digits n) = string (decimal n)
value_json (value.Hexadecimal n) = string (hexadecimal n)
value_json (value.Addr addr) = string (addr_text addr)
value_json (value.Prefix prefix) = string (prefix_text prefix)
value_json (value.Dev name) = string (utf8_lossy name)
value_json (value.Part part) = string (utf8_lossy (part_text part))

abbrev pub member_of : Option Field → Option Member
member_of field = option_map (λ f. (f.0.now, value_json f.1)) field

abbrev pub members_of : List (Option Field) → List (Option Member)
members_of fields = map member_of fields

-- the tokens of the fields that are there, one after the other
abbrev pub fields_tokens : List (Option Member) → List Token
fields_tokens [] = []
fields_tokens (None ∷ fields) = fields_tokens fields
fields_tokens (Some field ∷ fields) = key field.0 ∷ (json_tokens field.1 ++ fields_tokens fields)

-- the tokens of the values, one after the other
abbrev pub values_tokens : List Json → List Token
values_tokens [] = []
values_tokens (value ∷ values) = json_tokens value ++ values_tokens values

-- the tokens of the rules that are tried of these
abbrev pub asked_tokens : List Rule → List Route → Packet → List Token
asked_tokens rules routes packet = values_tokens (map (asked_json routes packet) (asked_rules rules routes packet))

abbrev pub document_json : State → Document → Json
document_json state (document.Routes selector) = routes_json state selector.now
document_json state document.Rules = rules_json state
document_json state (document.Answer packet) = answer_json state packet.now
document_json state (document.Explanation packet) = explanation_json state packet.now
document_json state document.Tables = tables_json state
