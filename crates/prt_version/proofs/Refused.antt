-- What commands are refused for by the state that they are made of.
use Rattle.std.proofs.Common.{◌≡◌, ℕ, Bool, true, false, List, [], ◌∷◌, length, Option, Some, None, IfErr, Result, Ok, Err, subst}
use Rattle.std.specs.Option.{ok_or}
use Rattle.std.specs.Prelude.{if◌then◌else◌, nat_lt, option_map}
use Rattle.std.specs.Result.{result_err}
use Rattle.prt_refusals.specs.declared.refusal.Refusal.{Refusal}
use Rattle.prt_refusals.specs.declared.refusal.Refusal.TheVariants.{CountFull, Exists, Full, NoSuch}
use Rattle.prt_command.specs.declared.request.Command.{Command}
use Rattle.prt_command.specs.declared.request.Command.TheVariants.{RouteAdd, RouteChange, RouteReplace, RouteDel, RouteFlush, RuleAdd, RuleDel, RuleFlush}
use Rattle.prt_route.specs.Edit.{has_key}
use Rattle.prt_route.specs.Route.{key_of}
use Rattle.prt_route.specs.RouteChoice.{chosen_route}
use Rattle.prt_version.specs.Accepted.{or_later, refusal_all}
use Rattle.prt_version.specs.Change.{apply, change_of, check, has_rule, if_room, named_rule, refusal, rule_of, unless_count_full}
use Rattle.prt_version.specs.State.{State}
use Rattle.prt_version.specs.declared.change.Change.{Change}
use Rattle.prt_version.specs.declared.limits.TheConstants.{MOST_COMMANDS, MOST_ROUTES, MOST_RULES}

-- a refusal by the state
abbrev pub IsOfState : Refusal → Type 0
IsOfState Exists = Unit {0}
IsOfState NoSuch = Unit {0}
IsOfState Full = Unit {0}
IsOfState CountFull = Unit {0}
IsOfState reason = ⊥

abbrev Fine : Result Change Refusal → Type 0
Fine made = IfErr made IsOfState

if_fine : (b : Bool) (r s : Result Change Refusal) → Fine r → Fine s → Fine (if b then r else s)
if_fine true r s then_so else_so = then_so
if_fine false r s then_so else_so = else_so

room_fine : (count most : ℕ) (made : Change) → Fine (if_room count most made)
room_fine count most made = if_fine (nat_lt count most) (Ok made) (Err Full) tt tt

found_fine : {X : Type 0} (make : X → Change) (found : Option X) → Fine (ok_or (option_map make found) NoSuch)
found_fine make None = tt
found_fine make (Some x) = tt

change_fine : (state : State) (command : Command) → Fine (change_of state command)
change_fine state (RouteAdd route) = if_fine (has_key (key_of route) state.routes) _ _ tt (room_fine (length state.routes) MOST_ROUTES _)
change_fine state (RouteChange route) = if_fine (has_key (key_of route) state.routes) _ _ tt tt
change_fine state (RouteReplace route) = if_fine (has_key (key_of route) state.routes) _ _ tt (room_fine (length state.routes) MOST_ROUTES _)
change_fine state (RouteDel choice) = found_fine _ (chosen_route choice state.routes)
change_fine state (RouteFlush selector) = tt
change_fine state (RuleAdd new) = if_fine (has_rule (rule_of state new) state.rules) _ _ tt (room_fine (length state.rules) MOST_RULES _)
change_fine state (RuleDel choice) = found_fine _ (named_rule choice state.rules)
change_fine state RuleFlush = tt

count_fine : (count : ℕ) (made : Result Change Refusal) → Fine made → Fine (unless_count_full count made)
count_fine count (Ok made) fine = if_fine (nat_lt count MOST_COMMANDS) (Ok made) (Err CountFull) tt tt
count_fine count (Err reason) fine = fine

err_fine : (made : Result Change Refusal) (why : Refusal) → Fine made → result_err made ≡ Some why → IsOfState why
err_fine (Ok made) why fine is = absurd (cc)
err_fine (Err reason) why fine is = let same : reason ≡ why = cc in subst IsOfState same fine

pub refused_by : (state : State) (command : Command) (why : Refusal) → refusal state command ≡ Some why → IsOfState why
refused_by state command why is = err_fine (check state command) why (count_fine state.count (change_of state command) (change_fine state command)) is

first_or_later : (first later : Option Refusal) (why : Refusal) → (first ≡ Some why → IsOfState why) → (later ≡ Some why → IsOfState why) → or_later first later ≡ Some why → IsOfState why
first_or_later (Some reason) later why first_of later_of is = first_of is
first_or_later None later why first_of later_of is = later_of is

-- of several commands the first that is refused
pub all_refused_by : (state : State) (commands : List Command) (why : Refusal) → refusal_all state commands ≡ Some why → IsOfState why
all_refused_by state [] why is = absurd (cc is)
all_refused_by state (command ∷ commands) why is =
    first_or_later (refusal state command) (refusal_all (apply state command) commands) why (refused_by state command why) (all_refused_by (apply state command) commands why) is
