-- The lines that put a state back on a host that has made some of its routes already: ip-rule(8), ip-route(8).
use Rattle.std.specs.Prelude.{◌≡◌, ℕ, Bool, false, not, ◌&&◌, is_none, is_some, List, [], ◌∷◌, ◌++◌, filter, map, Some, None}
use Rattle.prt_addr.specs.Prefix.{everything}
use Rattle.prt_route.specs.declared.route.Route.{Route}
use Rattle.prt_route.specs.Names.{local_table}
use Rattle.prt_rule.specs.declared.choice.RuleChoice.{RuleChoice}
use Rattle.prt_rule.specs.declared.rule.Action.TheVariants.{Lookup}
use Rattle.prt_rule.specs.declared.rule.Rule.{Rule}
use Rattle.prt_command.specs.declared.request.Command.{Command}
use Rattle.prt_command.specs.declared.request.Command.TheVariants.{RuleDel, RuleFlush}
use Rattle.prt_version.specs.State.{State, table_rule}
use Rattle.prt_diff.specs.Fence.{is_kernels}
use Rattle.prt_diff.specs.Names.{is_plain_name}
use Rattle.prt_diff.specs.Routes.{replace_route}
use Rattle.prt_diff.specs.Rules.{add_rule}
use Rattle.prt_diff.specs.Text.{batch_text}
use Rattle.prt_diff.specs.Unreadable.{is_unreadable_route, is_unreadable_rule}
use Rattle.prt_diff.specs.declared.held.Held.{Held}

-- a rule that looks up local, behind those of priority 0
abbrev pub spare_rule : ℕ → Rule
spare_rule priority = table_rule 0 priority local_table

-- the first rule that looks up local, whatever its priority
abbrev pub first_local : RuleChoice
first_local = record { priority = None; inverted = false; from = None; to = None; iif = None; mark = None; action = Some (Lookup local_table); suppress = None }

-- the first rule, whatever it has: `from all` names nothing
abbrev pub first_rule : RuleChoice
first_rule = record { priority = None; inverted = false; from = Some everything; to = None; iif = None; mark = None; action = None; suppress = None }

-- Each rule goes. A flush leaves those of priority 0. Of them local and one more are deleted, or a spare rule for each.
abbrev pub clearing : List Command
clearing = RuleFlush ∷ add_rule (spare_rule 1) ∷ add_rule (spare_rule 2) ∷ RuleDel first_local ∷ RuleDel first_rule ∷ RuleFlush ∷ []

-- the rules that `ip -batch` can read
abbrev pub plain_rules : List Rule → List Rule
plain_rules rules = filter (λ rule. is_plain_name rule.iif) rules

-- `ip -batch` can read the route, and the kernel doesn't make it itself
abbrev pub is_put_back : Route → Bool
is_put_back route = not (is_kernels route) && is_plain_name route.dev

abbrev pub direct_routes : List Route → List Route
direct_routes routes = filter (λ route. is_put_back route && is_none route.via) routes

abbrev pub gateway_routes : List Route → List Route
gateway_routes routes = filter (λ route. is_put_back route && is_some route.via) routes

-- The rules go. Then come those of the state in their order, the routes without a gateway, and those that may need them.
abbrev pub replacing_commands : State → List Command
replacing_commands state =
    clearing
    ++ (map add_rule (plain_rules state.rules) ++ (map replace_route (direct_routes state.routes) ++ map replace_route (gateway_routes state.routes)))

-- a line for each
abbrev pub replacing_text : State → List ℕ
replacing_text state = batch_text (replacing_commands state)

-- What of the state is left out: the rules and routes that `ip -batch` can't read. Nothing else is held back.
pub record AreLeftOut (state : State) (held : Held) : Type 0 where
  pub rules : held.unreadable.missing_rules.items ≡ filter is_unreadable_rule state.rules
  pub routes : held.unreadable.missing_routes.items ≡ filter is_unreadable_route state.routes
  pub no_staying_rules : held.unreadable.staying_rules.items ≡ []
  pub no_staying_routes : held.unreadable.staying_routes.items ≡ []
  pub none_blocked : held.blocked_routes.items ≡ []
  pub no_hindered_routes : held.hindered_routes.items ≡ []
  pub no_hindered_rules : held.hindered_rules.items ≡ []
  pub no_held_routes : held.staying_routes.items ≡ []
  pub no_held_rules : held.staying_rules.items ≡ []
