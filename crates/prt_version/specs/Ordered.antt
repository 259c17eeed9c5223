-- The rules and the routes of a state, except for their order.
use Rattle.std.specs.Prelude.{◌≤◌, ℕ, ◌+◌, Bool, ◌&&◌, ◌==◌, nat_le, List, length, IsTrue}
use Rattle.std.specs.List.{IsDistinct, list_all}
use Rattle.prt_route.specs.Storable.{is_storable_route}
use Rattle.prt_route.specs.declared.route.Route.{Route}
use Rattle.prt_rule.specs.Same.{is_same_rule}
use Rattle.prt_rule.specs.Storable.{is_storable_rule}
use Rattle.prt_rule.specs.declared.rule.Rule.{Rule}
use Rattle.prt_trie.specs.Table.{has_same_key}
use Rattle.prt_version.specs.declared.limits.TheConstants.{MOST_ROUTES, MOST_RULES}

abbrev pub has_same_id : Rule → Rule → Bool
has_same_id rule other = rule.id == other.id

-- the id is 1 to count + 3, and what it does is what a table may hold
abbrev pub is_rule_of : ℕ → Rule → Bool
is_rule_of count rule = nat_le 1 rule.id && nat_le rule.id (count + 3) && is_storable_rule rule.action rule.suppress

-- the rules of a state of this count, except for their order
pub record AreRules (count : ℕ) (rules : List Rule) : Type 0 where
  pub fit : length rules ≤ MOST_RULES
  pub each : IsTrue (list_all (is_rule_of count) rules)
  pub unlike : IsDistinct is_same_rule rules
  pub ids : IsDistinct has_same_id rules

-- the routes of a state, except for their order
pub record AreRoutes (routes : List Route) : Type 0 where
  pub fit : length routes ≤ MOST_ROUTES
  pub each : IsTrue (list_all is_storable_route routes)
  pub keys : IsDistinct has_same_key routes
