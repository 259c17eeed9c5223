-- What holds along the changes, and where they end.
use Rattle.std.specs.Prelude.{◌≡◌, ◌⊎◌, ◌+◌, ◌≤◌, true, false, not, List, [], ◌∷◌, filter, length, map}
use Rattle.std.specs.List.{Contains, AllByRecursion as Each}
use Rattle.prt_route.specs.Edit.{has_key}
use Rattle.prt_route.specs.declared.route.Route.{Route}
use Rattle.prt_route.specs.declared.route.RouteKey.{RouteKey}
use Rattle.prt_rule.specs.declared.rule.Rule.{Rule}
use Rattle.prt_command.specs.declared.request.Command.{Command}
use Rattle.prt_version.specs.Change.{apply, fold, has_rule}
use Rattle.prt_version.specs.Sound.{IsSound}
use Rattle.prt_version.specs.State.{State}
use Rattle.prt_version.specs.declared.limits.TheConstants.{MOST_COMMANDS, MOST_ROUTES, MOST_RULES}
use Rattle.prt_diff.specs.Fence.{is_rule_within, rules_within}
use Rattle.prt_diff.specs.Plan.{changes, coming_routes}
use Rattle.prt_diff.specs.Routes.{agrees, has_agreeing, kept_routes, managed_routes, put_all, wanted_routes}
use Rattle.prt_diff.specs.Rules.{coming_rules, without_id}
use Rattle.prt_diff.specs.declared.fence.Fence.{Fence}
use Rattle.std.specs.List.{list_any}

-- The found state has room for what is found and what comes, both at once. A rule that moves counts as one that comes.
pub record HasRoom (fence : Fence) (found wanted : State) : Type 0 where
  pub routes : length (put_all (coming_routes fence found wanted) found.routes) ≤ MOST_ROUTES
  pub rules : length found.rules + length (coming_rules fence found.rules wanted.rules) ≤ MOST_RULES
  pub commands : found.count + length (changes fence found wanted) ≤ MOST_COMMANDS

-- the state holds, and so does each after one more of the commands
abbrev pub EachState : (State → Type 0) → State → List Command → Type 0
EachState P state [] = P state
EachState P state (command ∷ commands) = P state × EachState P (apply state command) commands

-- ---- between two states

-- What both ends have is there, except rules that move. What is there, one of the ends has.
pub record IsBetween (found end : State) (moved : List Rule) (state : State) : Type 0 where
  pub rules_of_both : (rule : Rule) → has_rule rule found.rules ≡ true → has_rule rule end.rules ≡ true → has_rule rule moved ≡ false →
      has_rule rule state.rules ≡ true
  pub rules_of_one : (rule : Rule) → has_rule rule state.rules ≡ true → (has_rule rule found.rules ≡ true) ⊎ (has_rule rule end.rules ≡ true)
  pub keys_of_both : (key : RouteKey) → has_key key found.routes ≡ true → has_key key end.routes ≡ true → has_key key state.routes ≡ true
  pub routes_of_one : (route : Route) → Contains state.routes route → Contains found.routes route ⊎ Contains end.routes route

-- ---- the end

-- the same rules in the same order, except for ids
abbrev pub AreSame : List Rule → List Rule → Type 0
AreSame rules others = map without_id rules ≡ map without_id others

abbrev pub rules_beyond : Fence → List Rule → List Rule
rules_beyond fence rules = filter (λ rule. not (is_rule_within fence rule)) rules

-- What may not be changed is as it was found, and the rest is as it is wanted, except for rules that are left.
pub record IsBrought (fence : Fence) (found wanted end : State) (left : List Rule) : Type 0 where
  pub rules_kept : AreSame (rules_beyond fence end.rules) (rules_beyond fence found.rules)
  pub rules_there : (rule : Rule) → is_rule_within fence rule ≡ true → has_rule rule wanted.rules ≡ true → has_rule rule end.rules ≡ true
  pub rules_wanted : (rule : Rule) → is_rule_within fence rule ≡ true → has_rule rule end.rules ≡ true →
      (has_rule rule wanted.rules ≡ true) ⊎ (has_rule rule left ≡ true)
  pub rules_in_order : left ≡ [] → AreSame (rules_within fence end.rules) (rules_within fence wanted.rules)
  pub routes_kept : kept_routes fence end.routes ≡ kept_routes fence found.routes
  pub routes_there : Each (λ route. has_agreeing route end.routes ≡ true) (wanted_routes fence found.routes wanted.routes)
  pub routes_wanted : Each (λ route. list_any (λ one. agrees one route) (wanted_routes fence found.routes wanted.routes) ≡ true)
      (managed_routes fence end.routes)

-- the state after the changes
abbrev pub end_of : Fence → State → State → State
end_of fence found wanted = fold found (changes fence found wanted)

-- what is wanted of both states: they are sound, and there is room
pub record CanBring (fence : Fence) (found wanted : State) : Type 0 where
  pub found_sound : IsSound found
  pub wanted_sound : IsSound wanted
  pub room : HasRoom fence found wanted
