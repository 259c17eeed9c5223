-- Which commands a line can ask for.
use Rattle.std.specs.Prelude.{◌≡◌, ℕ, Bool, true, false, ◌&&◌, ◌||◌, nat_le, is_some, Option, Some, None}
use Rattle.prt_route.specs.Storable.{is_storable_route}
use Rattle.prt_route.specs.declared.choice.RouteChoice.{RouteChoice}
use Rattle.prt_route.specs.declared.choice.Selector.{Selector}
use Rattle.prt_route.specs.declared.route.Route.{Route}
use Rattle.prt_rule.specs.Storable.{is_length, is_storable_rule}
use Rattle.prt_rule.specs.declared.choice.RuleChoice.{RuleChoice}
use Rattle.prt_rule.specs.declared.rule.Action.{Action}
use Rattle.prt_rule.specs.declared.rule.Action.TheVariants.{Lookup}
use Rattle.prt_command.specs.declared.request.Command.{Command}
use Rattle.prt_command.specs.declared.request.Command.TheVariants.{RouteAdd, RouteChange, RouteReplace, RouteDel, RouteFlush, RuleAdd, RuleDel, RuleFlush}
use Rattle.prt_command.specs.declared.request.NewRule.{NewRule}
use Rattle.prt_spelling.specs.Plain.{is_plain_name}
use Rattle.prt_spelling.specs.declared.refusal.SpellingError.{SpellingError}
use Rattle.prt_spelling.specs.declared.refusal.SpellingError.TheVariants.{NoLine, NoMemory}

-- a table may hold the route, and a line can name its interface
abbrev pub is_spelled_route : Route → Bool
is_spelled_route route = is_storable_route route && is_plain_name route.dev

-- a number from 1 on, if there is one
abbrev pub is_from_one : Option ℕ → Bool
is_from_one None = true
is_from_one (Some n) = nat_le 1 n

-- a table from 1 on, no metric of 0, which a line can't distinguish from none, and a name that a line can express
abbrev pub is_spelled_choice : RouteChoice → Bool
is_spelled_choice choice = nat_le 1 choice.table && is_from_one choice.metric && is_plain_name choice.dev

-- the same of a selector
abbrev pub is_spelled_selector : Selector → Bool
is_spelled_selector selector = is_from_one selector.table && is_plain_name selector.dev

-- a table may hold the rule, and a line can name its interface
abbrev pub is_spelled_rule : NewRule → Bool
is_spelled_rule rule = is_storable_rule rule.action rule.suppress && is_plain_name rule.iif

-- something is given; without `not` it isn't given that a rule is not inverted
abbrev pub gives_some : RuleChoice → Bool
gives_some choice =
    is_some choice.iif
    || choice.inverted
    || is_some choice.from
    || is_some choice.to
    || is_some choice.mark
    || is_some choice.priority
    || is_some choice.action
    || is_some choice.suppress

-- a table that is looked up is one from 1 on
abbrev pub is_spelled_action : Option Action → Bool
is_spelled_action (Some (Lookup table)) = nat_le 1 table
is_spelled_action other = true

-- something is given, and a line can express it
abbrev pub is_spelled_rule_choice : RuleChoice → Bool
is_spelled_rule_choice choice = gives_some choice && is_spelled_action choice.action && is_length choice.suppress && is_plain_name choice.iif

-- a line asks for the command
abbrev pub is_spelled : Command → Bool
is_spelled (RouteAdd route) = is_spelled_route route
is_spelled (RouteChange route) = is_spelled_route route
is_spelled (RouteReplace route) = is_spelled_route route
is_spelled (RouteDel choice) = is_spelled_choice choice
is_spelled (RouteFlush selector) = is_spelled_selector selector
is_spelled (RuleAdd rule) = is_spelled_rule rule
is_spelled (RuleDel choice) = is_spelled_rule_choice choice
is_spelled RuleFlush = true

-- why a command has no line
abbrev pub IsWhyNotSpelled : Command → SpellingError → Type 0
IsWhyNotSpelled command NoLine = is_spelled command ≡ false
IsWhyNotSpelled command NoMemory = Unit {0}
