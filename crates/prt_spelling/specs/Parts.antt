-- What the line of a command says, part by part: ip-route(8), ip-rule(8).
use Rattle.std.specs.Prelude.{ℕ, Bool, ◌^◌, ◌-◌, ◌&&◌, ◌==◌, is_none, if◌then◌else◌, List, [], ◌∷◌, ◌++◌, Option, Some, None, option_map, codes, decimal}
use Rattle.prt_addr.specs.Addr.{addr_text}
use Rattle.prt_addr.specs.Block.{Block}
use Rattle.prt_addr.specs.Word.{Word}
use Rattle.prt_route.specs.Kind.{kind_name}
use Rattle.prt_route.specs.Names.{boot_protocol, global_scope, protocols, scopes}
use Rattle.prt_route.specs.RouteChoice.{is_same_kind}
use Rattle.prt_route.specs.declared.choice.Range.{Range}
use Rattle.prt_route.specs.declared.choice.Range.TheVariants.{All, Root, Covering, Exact}
use Rattle.prt_route.specs.declared.choice.RouteChoice.{RouteChoice}
use Rattle.prt_route.specs.declared.choice.Selector.{Selector}
use Rattle.prt_route.specs.declared.kind.Kind.{Kind}
use Rattle.prt_route.specs.declared.kind.Kind.TheVariants.{Unicast}
use Rattle.prt_route.specs.declared.route.Route.{Route}
use Rattle.prt_rule.specs.declared.choice.RuleChoice.{RuleChoice}
use Rattle.prt_rule.specs.declared.rule.Mark.{Mark}
use Rattle.prt_command.specs.declared.request.NewRule.{NewRule}
use Rattle.prt_listing.specs.Parts.{is_everything, mark_text, name_or_number, part, prefix_or, table_text}
use Rattle.prt_listing.specs.RouteText.{table_part}
use Rattle.prt_listing.specs.RuleText.{action_text, not_part}
use Rattle.prt_listing.specs.declared.route.TablePart.TheVariants.{Shown}
use Rattle.prt_spelling.specs.declared.form.NameForm.{NameForm}
use Rattle.prt_spelling.specs.declared.form.NameForm.TheVariants.{ByName, ByNumber}

-- ---- routes

-- those of these names that a line has
abbrev pub names_in : NameForm → List (Word × ℕ) → List (Word × ℕ)
names_in ByName names = names
names_in ByNumber names = []

abbrev pub protocol_text : NameForm → ℕ → List ℕ
protocol_text form proto = name_or_number (names_in form protocols) proto

abbrev pub scope_text : NameForm → ℕ → List ℕ
scope_text form scope = name_or_number (names_in form scopes) scope

abbrev pub proto_part : NameForm → Option ℕ → Option (List ℕ)
proto_part form proto = part (codes "proto") (option_map (protocol_text form) proto)

abbrev pub scope_part : NameForm → Option ℕ → Option (List ℕ)
scope_part form scope = part (codes "scope") (option_map (scope_text form) scope)

-- a route to be deleted: all that is given, also what a listing leaves out, except for table main
abbrev pub route_choice_parts : NameForm → RouteChoice → List (Option (List ℕ))
route_choice_parts form choice =
    option_map kind_name choice.kind
    ∷ Some (prefix_or (codes "default") choice.prefix)
    ∷ part (codes "via") (option_map addr_text choice.via)
    ∷ part (codes "dev") choice.dev
    ∷ table_part Shown choice.table
    ∷ proto_part form choice.proto
    ∷ scope_part form choice.scope
    ∷ part (codes "src") (option_map addr_text choice.src)
    ∷ part (codes "metric") (option_map decimal choice.metric)
    ∷ []

-- the number, except for one that is implied
abbrev pub said : ℕ → ℕ → Option ℕ
said unsaid n = if n == unsaid then None else Some n

abbrev pub said_kind : Kind → Option Kind
said_kind Unicast = None
said_kind kind = Some kind

-- what is given of a route to be put: all except what is implied as in a listing
abbrev pub given_of_route : Route → RouteChoice
given_of_route route = record {
  table = route.table;
  prefix = route.prefix;
  metric = said 0 route.metric;
  kind = said_kind route.kind;
  via = route.via;
  dev = route.dev;
  src = route.src;
  proto = said boot_protocol route.proto;
  scope = said global_scope route.scope;
}

-- Scope global is implied in a listing. A new unicast route has it through a gateway alone.
abbrev pub has_unsaid_scope : Route → Bool
has_unsaid_scope route = is_same_kind Unicast route.kind && is_none route.via && route.scope == global_scope

abbrev pub global_part : NameForm → Route → Option (List ℕ)
global_part form route = if has_unsaid_scope route then scope_part form (Some global_scope) else None

-- a route to be put: what is given of it, and scope global if a new one would not have it
abbrev pub new_route_parts : NameForm → Route → List (Option (List ℕ))
new_route_parts form route = route_choice_parts form (given_of_route route) ++ global_part form route ∷ []

-- a prefix after the word for what is taken by it
abbrev pub ranged : List ℕ → Block → Option (List ℕ)
ranged word block = part word (Some (prefix_or (codes "default") block))

abbrev pub range_part : Range → Option (List ℕ)
range_part All = None
range_part (Root block) = ranged (codes "root") block
range_part (Covering block) = ranged (codes "match") block
range_part (Exact block) = ranged (codes "exact") block

-- a table, or all of them
abbrev pub tables_text : Option ℕ → List ℕ
tables_text None = codes "all"
tables_text (Some table) = table_text table

-- The routes to be flushed: all that is given. The table is always said, since a flush has to say something.
abbrev pub selector_parts : NameForm → Selector → List (Option (List ℕ))
selector_parts form selector =
    range_part selector.range
    ∷ part (codes "table") (Some (tables_text selector.table))
    ∷ part (codes "type") (option_map kind_name selector.kind)
    ∷ proto_part form selector.proto
    ∷ scope_part form selector.scope
    ∷ part (codes "dev") selector.dev
    ∷ []

-- ---- rules

abbrev pub prefix_part : List ℕ → Option Block → Option (List ℕ)
prefix_part word block = part word (option_map (prefix_or (codes "all")) block)

-- the mark 0 of which every bit counts: `ip` reads `fwmark 0` as no mark, if it has no mask
abbrev pub is_zero_mark : Mark → Bool
is_zero_mark m = m.mark == 0 && m.mask == 2 ^ 32 - 1

-- a mark as a listing shows it, but 0 with its mask
abbrev pub given_mark_text : Mark → List ℕ
given_mark_text m = if is_zero_mark m then codes "0x0/0xffffffff" else mark_text m

abbrev pub given_mark_part : Option Mark → Option (List ℕ)
given_mark_part mark = part (codes "fwmark") (option_map given_mark_text mark)

-- a rule to be deleted: all that is given
abbrev pub rule_choice_parts : RuleChoice → List (Option (List ℕ))
rule_choice_parts choice =
    part (codes "priority") (option_map decimal choice.priority)
    ∷ not_part choice.inverted
    ∷ prefix_part (codes "from") choice.from
    ∷ prefix_part (codes "to") choice.to
    ∷ given_mark_part choice.mark
    ∷ part (codes "iif") choice.iif
    ∷ option_map action_text choice.action
    ∷ part (codes "suppress_prefixlength") (option_map decimal choice.suppress)
    ∷ []

-- what is given of a rule to be added: all except the destinations 0.0.0.0/0, which are implied as in a listing
abbrev pub given_of : NewRule → RuleChoice
given_of rule = record {
  priority = rule.priority;
  inverted = rule.inverted;
  from = Some rule.from;
  to = if is_everything rule.to then None else Some rule.to;
  iif = rule.iif;
  mark = rule.mark;
  action = Some rule.action;
  suppress = rule.suppress;
}
