-- A state has one form.
use Rattle.std.proofs.Common.{◌≡◌, ℕ, List, ap, ◌∙◌}
use Rattle.std.specs.List.{Contains}
use Rattle.prt_addr.proofs.Orders.{same_risings}
use Rattle.prt_route.specs.Route.{is_listed_before}
use Rattle.prt_route.specs.declared.route.Route.{Route}
use Rattle.prt_route.proofs.Edits.{listing_order}
use Rattle.prt_rule.specs.Rule.{is_before}
use Rattle.prt_rule.specs.declared.rule.Rule.{Rule}
use Rattle.prt_version.specs.Sound.{IsSound}
use Rattle.prt_version.specs.State.{State}
use Rattle.prt_version.proofs.RuleOrder.{rule_order}

abbrev state_by : ℕ → List Rule → List Route → State
state_by count rules routes = record { count = count; rules = rules; routes = routes }

-- what the same members say of two states of the same count
pub same_state : (state other : State) → IsSound state → IsSound other → state.count ≡ other.count → ((rule : Rule) → Contains state.rules rule → Contains other.rules rule) → ((rule : Rule) → Contains other.rules rule → Contains state.rules rule) → ((route : Route) → Contains state.routes route → Contains other.routes route) → ((route : Route) → Contains other.routes route → Contains state.routes route) → state ≡ other
same_state state other sound other_sound counts rules_there rules_back routes_there routes_back =
    let rules_are : state.rules ≡ other.rules = same_risings is_before rule_order state.rules other.rules sound.rules_rise other_sound.rules_rise rules_there rules_back in
    let routes_are : state.routes ≡ other.routes = same_risings is_listed_before listing_order state.routes other.routes sound.routes_rise other_sound.routes_rise routes_there routes_back in
    ap (λ count. state_by count state.rules state.routes) counts ∙ ap (λ rules. state_by other.count rules state.routes) rules_are ∙ ap (λ routes. state_by other.count other.rules routes) routes_are
