-- What the types of the program say of the numbers of a command.
use Rattle.std.specs.Prelude.{◌<◌, ◌≤◌, ◌^◌, IfSome}
use Rattle.prt_addr.specs.Sound.{IsPrefix}
use Rattle.prt_addr.specs.declared.addr.Addr.{Addr}
use Rattle.prt_route.specs.declared.choice.Range.{Range}
use Rattle.prt_route.specs.declared.choice.Range.TheVariants.{All, Root, Covering, Exact}
use Rattle.prt_route.specs.declared.choice.RouteChoice.{RouteChoice}
use Rattle.prt_route.specs.declared.choice.Selector.{Selector}
use Rattle.prt_route.specs.declared.route.Route.{Route}
use Rattle.prt_rule.specs.declared.choice.RuleChoice.{RuleChoice}
use Rattle.prt_rule.specs.declared.rule.Action.{Action}
use Rattle.prt_rule.specs.declared.rule.Action.TheVariants.{Lookup}
use Rattle.prt_rule.specs.declared.rule.Mark.{Mark}
use Rattle.prt_command.specs.declared.request.Command.{Command}
use Rattle.prt_command.specs.declared.request.Command.TheVariants.{RouteAdd, RouteChange, RouteReplace, RouteDel, RouteFlush, RuleAdd, RuleDel, RuleFlush}
use Rattle.prt_command.specs.declared.request.NewRule.{NewRule}

abbrev pub AddrFits : Addr → Type 0
AddrFits addr = addr.0 < 2 ^ 32

abbrev pub MarkFits : Mark → Type 0
MarkFits mark = (mark.mark < 2 ^ 32) × (mark.mask < 2 ^ 32)

abbrev pub ActionFits : Action → Type 0
ActionFits (Lookup table) = table < 2 ^ 32
ActionFits action = Unit {0}

abbrev pub RangeFits : Range → Type 0
RangeFits All = Unit {0}
RangeFits (Root block) = IsPrefix block
RangeFits (Covering block) = IsPrefix block
RangeFits (Exact block) = IsPrefix block

pub record RouteFits (route : Route) : Type 0 where
  pub prefix : IsPrefix route.prefix
  pub metric : route.metric < 2 ^ 32
  pub via : IfSome route.via AddrFits
  pub src : IfSome route.src AddrFits
  pub proto : route.proto ≤ 255
  pub scope : route.scope ≤ 255

pub record RouteChoiceFits (choice : RouteChoice) : Type 0 where
  pub table : choice.table < 2 ^ 32
  pub prefix : IsPrefix choice.prefix
  pub metric : IfSome choice.metric (λ metric. metric < 2 ^ 32)
  pub via : IfSome choice.via AddrFits
  pub src : IfSome choice.src AddrFits
  pub proto : IfSome choice.proto (λ proto. proto ≤ 255)
  pub scope : IfSome choice.scope (λ scope. scope ≤ 255)

pub record SelectorFits (selector : Selector) : Type 0 where
  pub table : IfSome selector.table (λ table. table < 2 ^ 32)
  pub range : RangeFits selector.range
  pub proto : IfSome selector.proto (λ proto. proto ≤ 255)
  pub scope : IfSome selector.scope (λ scope. scope ≤ 255)

pub record NewRuleFits (rule : NewRule) : Type 0 where
  pub priority : IfSome rule.priority (λ priority. priority < 2 ^ 32)
  pub from : IsPrefix rule.from
  pub to : IsPrefix rule.to
  pub mark : IfSome rule.mark MarkFits
  pub action : ActionFits rule.action

pub record RuleChoiceFits (choice : RuleChoice) : Type 0 where
  pub priority : IfSome choice.priority (λ priority. priority < 2 ^ 32)
  pub from : IfSome choice.from IsPrefix
  pub to : IfSome choice.to IsPrefix
  pub mark : IfSome choice.mark MarkFits
  pub action : IfSome choice.action ActionFits

abbrev pub CommandFits : Command → Type 0
CommandFits (RouteAdd route) = RouteFits route
CommandFits (RouteChange route) = RouteFits route
CommandFits (RouteReplace route) = RouteFits route
CommandFits (RouteDel choice) = RouteChoiceFits choice
CommandFits (RouteFlush selector) = SelectorFits selector
CommandFits (RuleAdd rule) = NewRuleFits rule
CommandFits (RuleDel choice) = RuleChoiceFits choice
CommandFits RuleFlush = Unit {0}
