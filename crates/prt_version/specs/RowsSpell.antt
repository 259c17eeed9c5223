-- Which state rows of rules and routes encode.
use Rattle.std.specs.Prelude.{◌≡◌, ℕ, List, IsPermutation, IsTrue}
use Rattle.std.specs.List.{AllByRecursion as Each}
use Rattle.prt_route.specs.Storable.{is_storable_route}
use Rattle.prt_route.specs.declared.route.Route.{Route}
use Rattle.prt_rule.specs.Storable.{is_storable_rule}
use Rattle.prt_rule.specs.declared.rule.Rule.{Rule}
use Rattle.prt_version.specs.Sound.{IsSound}
use Rattle.prt_version.specs.State.{State}

-- a table may hold each of its rules and each of its routes
pub record IsStorableState (state : State) : Type 0 where
  pub rules : Each (λ rule. IsTrue (is_storable_rule rule.action rule.suppress)) state.rules
  pub routes : Each (λ route. IsTrue (is_storable_route route)) state.routes

-- After this many commands, these rows of rules and of routes, in whatever order they come, encode the state. Each of its rules
-- and of its routes has one row, and there are no more rows. So rows of which two are equal, or have one key, encode none; and no
-- rows encode two states (the law `spelled_once`).
pub record RowsSpell (number : ℕ) (rules : List Rule) (routes : List Route) (state : State) : Type 0 where
  pub count : state.count ≡ number
  pub rules_are : IsPermutation rules state.rules
  pub routes_are : IsPermutation routes state.routes
  pub sound : IsSound state
  pub storable : IsStorableState state

-- they encode no state
abbrev pub RowsSpellNone : ℕ → List Rule → List Route → Type 0
RowsSpellNone number rules routes = (state : State) → RowsSpell number rules routes state → ⊥
