-- The lines that put a state back: ip-rule(8), ip-route(8).
use Rattle.std.specs.Prelude.{ℕ, false, is_none, is_some, List, ◌∷◌, ◌++◌, filter, map, Some, None}
use Rattle.prt_route.specs.declared.route.Route.{Route}
use Rattle.prt_rule.specs.declared.choice.RuleChoice.{RuleChoice}
use Rattle.prt_rule.specs.declared.rule.Rule.{Rule}
use Rattle.prt_command.specs.declared.request.Command.{Command}
use Rattle.prt_command.specs.declared.request.Command.TheVariants.{RouteAdd, RuleAdd, RuleDel, RuleFlush}
use Rattle.prt_command.specs.declared.request.NewRule.{NewRule}
use Rattle.prt_spelling.specs.Line.{command_line}
use Rattle.prt_version.specs.State.{State}

-- the rule of the lowest priority
abbrev pub first_rule : RuleChoice
first_rule = record { priority = Some 0; inverted = false; from = None; to = None; iif = None; mark = None; action = None; suppress = None }

-- the rule as one to be added
abbrev pub new_rule : Rule → NewRule
new_rule rule = record {
  priority = Some rule.priority;
  inverted = rule.inverted;
  from = rule.from;
  to = rule.to;
  iif = rule.iif;
  mark =
      rule.mark;
  action = rule.action;
  suppress = rule.suppress;
}

-- the commands that add a rule and a route
abbrev pub add_rule : Rule → Command
add_rule rule = RuleAdd (new_rule rule)

abbrev pub add_route : Route → Command
add_route route = RouteAdd route

-- a next hop may need a route to it: those without a gateway come first
abbrev pub gateways_last : List Route → List Route
gateways_last routes = filter (λ route. is_none route.via) routes ++ filter (λ route. is_some route.via) routes

-- the three rules of a new database go, then come the rules in their order, then the routes
abbrev pub dump_commands : State → List Command
dump_commands state = RuleFlush ∷ RuleDel first_rule ∷ (map add_rule state.rules ++ map add_route (gateways_last state.routes))

-- a line for each
abbrev pub dump_lines : State → List (List ℕ)
dump_lines state = map command_line (dump_commands state)
