-- What holds of every version.
use Rattle.std.specs.Prelude.{◌+◌, ◌≤◌, ◌==◌, length}
use Rattle.std.specs.List.{AllByRecursion as Each, IsDistinct}
use Rattle.prt_addr.specs.Rising.{IsRising}
use Rattle.prt_route.specs.Route.{is_listed_before}
use Rattle.prt_rule.specs.Sound.{IsInOrder}
use Rattle.prt_rule.specs.Same.{is_same_rule}
use Rattle.prt_version.specs.State.{State}
use Rattle.prt_version.specs.declared.limits.TheConstants.{MOST_COMMANDS, MOST_ROUTES, MOST_RULES}

pub record IsSound (state : State) : Type 0 where
  -- no more commands were accepted than ever are
  pub count_fits : state.count ≤ MOST_COMMANDS
  -- the rules rise by priority, then by id: each is tried before those after it
  pub rules_rise : IsInOrder state.rules
  -- each rule's id is 1 or more: a new database's three rules have 1 to 3
  pub ids_from_one : Each (λ rule. 1 ≤ rule.id) state.rules
  -- each rule's id is count + 3 or less: a rule that command n put has n + 3
  pub ids : Each (λ rule. rule.id ≤ state.count + 3) state.rules
  -- no two rules have the same id
  pub distinct_ids : IsDistinct (λ rule other. rule.id == other.id) state.rules
  -- no two rules are equal in all but the id
  pub distinct_rules : IsDistinct is_same_rule state.rules
  -- the routes rise by table, address, length and metric, so no two have the same key
  pub routes_rise : IsRising is_listed_before state.routes
  -- there is room for all
  pub rules_fit : length state.rules ≤ MOST_RULES
  pub routes_fit : length state.routes ≤ MOST_ROUTES
