-- The line that asks for a command.
use Rattle.std.specs.Prelude.{ℕ, List, [], ◌∷◌, Option, Some, codes}
use Rattle.prt_command.specs.declared.request.Command.{Command}
use Rattle.prt_command.specs.declared.request.Command.TheVariants.{RouteAdd, RouteChange, RouteReplace, RouteDel, RouteFlush, RuleAdd, RuleDel, RuleFlush}
use Rattle.prt_listing.specs.Parts.{spaced}
use Rattle.prt_spelling.specs.Parts.{given_of, new_route_parts, route_choice_parts, rule_choice_parts, selector_parts}
use Rattle.prt_spelling.specs.declared.form.NameForm.{NameForm}
use Rattle.prt_spelling.specs.declared.form.NameForm.TheVariants.{ByName}

-- its object and its verb
abbrev pub verb_words : Command → List ℕ
verb_words (RouteAdd route) = codes "route add"
verb_words (RouteChange route) = codes "route change"
verb_words (RouteReplace route) = codes "route replace"
verb_words (RouteDel choice) = codes "route del"
verb_words (RouteFlush selector) = codes "route flush"
verb_words (RuleAdd rule) = codes "rule add"
verb_words (RuleDel choice) = codes "rule del"
verb_words RuleFlush = codes "rule flush"

-- what it says after them
abbrev pub command_parts : NameForm → Command → List (Option (List ℕ))
command_parts form (RouteAdd route) = new_route_parts form route
command_parts form (RouteChange route) = new_route_parts form route
command_parts form (RouteReplace route) = new_route_parts form route
command_parts form (RouteDel choice) = route_choice_parts form choice
command_parts form (RouteFlush selector) = selector_parts form selector
command_parts form (RuleAdd rule) = rule_choice_parts (given_of rule)
command_parts form (RuleDel choice) = rule_choice_parts choice
command_parts form RuleFlush = []

-- the line, without a newline
abbrev pub line_by : NameForm → Command → List ℕ
line_by form command = spaced (Some (verb_words command) ∷ command_parts form command)

-- the line with the names of protocols and scopes
abbrev pub command_line : Command → List ℕ
command_line command = line_by ByName command
