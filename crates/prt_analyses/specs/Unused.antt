-- Rules that decide no packet, and routes that no packet gets.
pub mod Text
pub mod Steps
use Rattle.std.specs.Prelude.{ℕ, ◌≡◌, ◌≢◌, false, true, List, map, Some}
use Rattle.std.specs.List.{Contains, AllByRecursion as Each}
use Rattle.prt_addr.specs.Block.{Block}
use Rattle.prt_addr.specs.Prefix.{contains}
use Rattle.prt_addr.specs.Rising.{IsRising}
use Rattle.prt_route.specs.Route.{is_listed_before}
use Rattle.prt_route.specs.declared.kind.Kind.TheVariants.{Throw}
use Rattle.prt_route.specs.declared.route.Route.{Route}
use Rattle.prt_rule.specs.Rule.{matches}
use Rattle.prt_rule.specs.Sound.{IsInOrder}
use Rattle.prt_rule.specs.declared.packet.Packet.{Packet}
use Rattle.prt_rule.specs.declared.rule.Action.TheVariants.{Lookup}
use Rattle.prt_rule.specs.declared.rule.Rule.{Rule}
use Rattle.prt_version.specs.Select.{decider, select}
use Rattle.prt_version.specs.State.{State}
use Rattle.prt_version.specs.declared.answer.Verdict.TheVariants as verdict
use Rattle.prt_partition.specs.Classes.{IsPacket}
use Rattle.prt_analyses.specs.declared.unused.report.Example.{Example}
use Rattle.prt_analyses.specs.declared.unused.report.RouteReason.{RouteReason}
use Rattle.prt_analyses.specs.declared.unused.report.RouteReason.TheVariants.{NoRule, Throws, Unmatched, Reaches}
use Rattle.prt_analyses.specs.declared.unused.report.RuleReason.{RuleReason}
use Rattle.prt_analyses.specs.declared.unused.report.RuleReason.TheVariants.{MatchesNothing, Matches}
use Rattle.prt_analyses.specs.declared.unused.report.Unused.{Unused}
use Rattle.prt_analyses.specs.declared.unused.report.UnusedRoute.{UnusedRoute}
use Rattle.prt_analyses.specs.declared.unused.report.UnusedRule.{UnusedRule}

-- ---- what is unused

-- the rule decides no packet
abbrev pub IsUnusedRule : State → Rule → Type 0
IsUnusedRule state rule = (packet : Packet) → IsPacket packet → decider state.rules state.routes packet ≢ Some rule

-- no packet gets the route
abbrev pub IsUnusedRoute : State → Route → Type 0
IsUnusedRoute state route = (packet : Packet) (priority : ℕ) → IsPacket packet → select state packet ≢ verdict.Route priority route

-- ---- what is told of it

-- the verdict is what becomes of the packet
abbrev pub IsExample : State → Example → Type 0
IsExample state example = example.verdict ≡ select state example.packet

-- the rule matches no packet, or it matches this one, which gets this verdict
abbrev pub IsRuleReason : State → Rule → RuleReason → Type 0
IsRuleReason state rule MatchesNothing = (packet : Packet) → IsPacket packet → matches rule packet ≡ false
IsRuleReason state rule (Matches example) = (matches rule example.packet ≡ true) × IsExample state example

-- the rule is one of these, and looks up the table
abbrev pub IsLookup : List Rule → ℕ → Rule → Type 0
IsLookup rules table rule = Contains rules rule × (rule.action ≡ Lookup table)

-- the rule matches no packet whose destination is in the prefix
abbrev pub MatchesNone : Block → Rule → Type 0
MatchesNone prefix rule = (packet : Packet) → IsPacket packet → contains prefix packet.dst ≡ true → matches rule packet ≡ false

-- none of these rules that looks up the route's table matches a packet to its prefix
abbrev pub AllMiss : List Rule → Route → Type 0
AllMiss rules route = (rule : Rule) → IsLookup rules route.table rule → MatchesNone route.prefix rule

-- one of these rules that looks up the route's table matches the packet, and the route's prefix has its destination
abbrev pub IsReached : List Rule → Route → Packet → Type 0
IsReached rules route packet = ((rule : Rule) × IsLookup rules route.table rule × (matches rule packet ≡ true)) × (contains route.prefix packet.dst ≡ true)

-- No rule looks up the table of the route. Or it is a throw route. Or rules look up its table, but none of them matches a packet
-- to its prefix. Or one of them matches this packet, which is to its prefix and gets this verdict.
abbrev pub IsRouteReason : State → Route → RouteReason → Type 0
IsRouteReason state route NoRule = Each (λ (rule : Rule). rule.action ≢ Lookup route.table) state.rules
IsRouteReason state route Throws = route.kind ≡ Throw
IsRouteReason state route Unmatched = ((rule : Rule) × IsLookup state.rules route.table rule) × AllMiss state.rules route
IsRouteReason state route (Reaches example) = IsReached state.rules route example.packet × IsExample state example

-- ---- all of them

abbrev pub rules_of : List UnusedRule → List Rule
rules_of unused = map (λ (one : UnusedRule). one.rule) unused

abbrev pub routes_of : List UnusedRoute → List Route
routes_of unused = map (λ (one : UnusedRoute). one.route) unused

-- the rules that decide no packet, in the order in which rules are tried
pub record AreUnusedRules (state : State) (unused : List UnusedRule) : Type 0 where
  -- each is a rule of the state
  pub held : Each (λ (one : UnusedRule). Contains state.rules one.rule) unused
  -- each decides no packet
  pub sound : Each (λ (one : UnusedRule). IsUnusedRule state one.rule) unused
  -- what is said of each is so
  pub reasons : Each (λ (one : UnusedRule). IsRuleReason state one.rule one.reason) unused
  -- none is missing
  pub complete : (rule : Rule) → Contains state.rules rule → IsUnusedRule state rule → Contains (rules_of unused) rule
  pub order : IsInOrder (rules_of unused)

-- the routes that no packet gets, in the order of listings
pub record AreUnusedRoutes (state : State) (unused : List UnusedRoute) : Type 0 where
  -- each is a route of the state
  pub held : Each (λ (one : UnusedRoute). Contains state.routes one.route) unused
  -- no packet gets it
  pub sound : Each (λ (one : UnusedRoute). IsUnusedRoute state one.route) unused
  -- what is said of each is so
  pub reasons : Each (λ (one : UnusedRoute). IsRouteReason state one.route one.reason) unused
  -- none is missing
  pub complete : (route : Route) → Contains state.routes route → IsUnusedRoute state route → Contains (routes_of unused) route
  pub order : IsRising is_listed_before (routes_of unused)

pub record AreUnused (state : State) (unused : Unused) : Type 0 where
  pub rules : AreUnusedRules state unused.rules.items
  pub routes : AreUnusedRoutes state unused.routes.items
