-- Which requests may be carried out: those whose routes and rules a table may hold.
use Rattle.std.specs.Prelude.{IsTrue, Option, Some, None}
use Rattle.prt_route.specs.Storable.{is_storable_route}
use Rattle.prt_rule.specs.Storable.{is_storable_rule}
use Rattle.prt_command.specs.declared.request.Command.{Command}
use Rattle.prt_command.specs.declared.request.Command.TheVariants.{RouteAdd, RouteChange, RouteReplace, RuleAdd}
use Rattle.prt_command.specs.declared.request.Request.{Request}
use Rattle.prt_command.specs.declared.request.Request.TheVariants as requests

-- a route or a rule that a command would put into a table may be there
abbrev pub IsStorable : Command → Type 0
IsStorable (RouteAdd route) = IsTrue (is_storable_route route)
IsStorable (RouteChange route) = IsTrue (is_storable_route route)
IsStorable (RouteReplace route) = IsTrue (is_storable_route route)
IsStorable (RuleAdd rule) = IsTrue (is_storable_rule rule.action rule.suppress)
IsStorable _ = Unit {0}

-- queries put nothing
abbrev pub IsStorableRequest : Request → Type 0
IsStorableRequest (requests.Command command) = IsStorable command
IsStorableRequest (requests.Query query) = Unit {0}

-- what a line asks for, if anything
abbrev pub IsStorableLine : Option Request → Type 0
IsStorableLine None = Unit {0}
IsStorableLine (Some request) = IsStorableRequest request
