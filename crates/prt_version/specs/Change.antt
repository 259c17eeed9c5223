-- What a command does to a state, or why it is refused: ip-route(8), ip-rule(8).
use Rattle.std.specs.Prelude.{◌≡◌, ℕ, ◌+◌, Bool, not, ◌==◌, nat_lt, if◌then◌else◌, List, [], ◌∷◌, length, filter, find, Option, Result, Ok, Err}
use Rattle.std.specs.Prelude.{ok_or, option_map, unwrap_or}
use Rattle.std.specs.List.{list_any}
use Rattle.std.specs.Result.{result_err}
use Rattle.prt_addr.specs.Order.{insert_by}
use Rattle.prt_refusals.specs.declared.refusal.Refusal.{Refusal}
use Rattle.prt_refusals.specs.declared.refusal.Refusal.TheVariants.{Exists, NoSuch, Full, CountFull}
use Rattle.prt_route.specs.Edit.{after_edit, has_key}
use Rattle.prt_route.specs.Route.{key_of}
use Rattle.prt_route.specs.RouteChoice.{chosen_route}
use Rattle.prt_route.specs.declared.edit.RouteEdit.TheVariants.{Put, Remove, Flush}
use Rattle.prt_rule.specs.Rule.{auto_priority, is_before}
use Rattle.prt_rule.specs.RuleChoice.{is_named}
use Rattle.prt_rule.specs.Same.{is_same_rule}
use Rattle.prt_rule.specs.declared.choice.RuleChoice.{RuleChoice}
use Rattle.prt_rule.specs.declared.rule.Rule.{Rule}
use Rattle.prt_command.specs.declared.request.Command.{Command}
use Rattle.prt_command.specs.declared.request.Command.TheVariants.{RouteAdd, RouteChange, RouteReplace, RouteDel, RouteFlush, RuleAdd, RuleDel, RuleFlush}
use Rattle.prt_command.specs.declared.request.NewRule.{NewRule}
use Rattle.prt_version.specs.State.{State}
use Rattle.prt_version.specs.declared.change.Change.{Change}
use Rattle.prt_version.specs.declared.change.Change.TheVariants as change
use Rattle.prt_version.specs.declared.limits.TheConstants.{MOST_COMMANDS, MOST_ROUTES, MOST_RULES}

-- ---- what a command is refused for, and the change that it makes

-- the rule with the next id, and the priority that is given or the automatic one
abbrev pub rule_of : State → NewRule → Rule
rule_of state new = record {
  id = state.count + 4;
  priority = unwrap_or new.priority (auto_priority state.rules);
  inverted =
      new.inverted;
  from = new.from;
  to = new.to;
  iif = new.iif;
  mark = new.mark;
  action = new.action;
  suppress = new.suppress;
}

-- one that is equal in all but the id
abbrev pub has_rule : Rule → List Rule → Bool
has_rule new rules = list_any (λ rule. is_same_rule rule new) rules

-- the first rule that the choice names
abbrev pub named_rule : RuleChoice → List Rule → Option Rule
named_rule choice rules = find (is_named choice) rules

-- the change, if there is room for one more
abbrev pub if_room : ℕ → ℕ → Change → Result Change Refusal
if_room count most made = if nat_lt count most then Ok made else Err Full

-- the change that a command asks for, if what is there allows it
abbrev pub change_of : State → Command → Result Change Refusal
change_of state (RouteAdd route) = if has_key (key_of route) state.routes then Err Exists else if_room (length state.routes) MOST_ROUTES (change.RouteAdd route)
change_of state (RouteChange route) = if has_key (key_of route) state.routes then Ok (change.Route (Put route)) else Err NoSuch
change_of state (RouteReplace route) =
    if has_key (key_of route) state.routes then Ok (change.Route (Put route))
    else if_room (length state.routes) MOST_ROUTES (change.Route (Put route))
change_of state (RouteDel choice) = ok_or (option_map (λ route. change.Route (Remove (key_of route))) (chosen_route choice state.routes)) NoSuch
change_of state (RouteFlush selector) = Ok (change.Route (Flush selector))
change_of state (RuleAdd new) =
    if has_rule (rule_of state new) state.rules then Err Exists else if_room (length state.rules) MOST_RULES (change.RulePut (rule_of state new))
change_of state (RuleDel choice) = ok_or (option_map (λ rule. change.RuleDrop rule.id) (named_rule choice state.rules)) NoSuch
change_of state RuleFlush = Ok change.RuleFlush

-- the change, unless no more commands are accepted
abbrev pub unless_count_full : ℕ → Result Change Refusal → Result Change Refusal
unless_count_full count (Ok made) = if nat_lt count MOST_COMMANDS then Ok made else Err CountFull
unless_count_full count (Err reason) = Err reason

-- the change that a command makes of a state, or the first reason not to make it
abbrev pub check : State → Command → Result Change Refusal
check state command = unless_count_full state.count (change_of state command)

-- why a command is refused, if it is
abbrev pub refusal : State → Command → Option Refusal
refusal state command = result_err (check state command)

-- ---- the state after it

abbrev pub put : State → Change → State
put state (change.Route edit) = record { count = state.count + 1; rules = state.rules; routes = after_edit edit state.routes }
put state (change.RouteAdd route) = record { count = state.count + 1; rules = state.rules; routes = after_edit (Put route) state.routes }
put state (change.RulePut rule) = record { count = state.count + 1; rules = insert_by is_before rule state.rules; routes = state.routes }
put state (change.RuleDrop id) = record { count = state.count + 1; rules = filter (λ rule. not (rule.id == id)) state.rules; routes = state.routes }
put state change.RuleFlush = record { count = state.count + 1; rules = filter (λ rule. rule.priority == 0) state.rules; routes = state.routes }

-- the state after a change, or as it was if none is made
abbrev pub put_if : State → Result Change Refusal → State
put_if state (Ok made) = put state made
put_if state (Err reason) = state

-- the state after a command
abbrev pub apply : State → Command → State
apply state command = put_if state (check state command)

-- the state after these commands
abbrev pub fold : State → List Command → State
fold state [] = state
fold state (command ∷ commands) = fold (apply state command) commands

-- some command makes this change
pub record IsChecked (state : State) (made : Change) : Type 0 where
  pub command : Command
  pub makes : check state command ≡ Ok made
