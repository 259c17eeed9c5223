-- What single rows encode.
use Rattle.std.specs.Prelude.{◌≡◌, ℕ, List, true, drop}
use Rattle.sqlite_value.specs.Order.{Row}
use Rattle.prt_route.specs.Storable.{is_storable_route}
use Rattle.prt_route.specs.declared.route.Route.{Route}
use Rattle.prt_rows.specs.MetaRow.{IsCount, meta_rows}
use Rattle.prt_rows.specs.RouteRow.{IsInRange, route_row}
use Rattle.prt_rows.specs.RuleRow.{IsRule, rule_row}
use Rattle.prt_rows.specs.SuppressRow.{IsLength, suppress_row}
use Rattle.prt_rows.specs.declared.suppress_row.RuleLength.{RuleLength}
use Rattle.prt_rule.specs.Storable.{is_storable_rule}
use Rattle.prt_rule.specs.declared.rule.Rule.{Rule}

-- a route that a table may hold, each of its values in the range of its column; the rowid comes first
pub record SpellsRoute (row : Row) : Type 0 where
  pub route : Route
  pub fits : IsInRange route
  pub storable : is_storable_route route ≡ true
  pub is : drop 1 row ≡ route_row route

-- a rule that a database may hold, with an id of 1 to `last`
pub record SpellsRule (last : ℕ) (row : Row) : Type 0 where
  pub rule : Rule
  pub fits : IsRule last rule
  pub storable : is_storable_rule rule.action rule.suppress ≡ true
  pub is : row ≡ rule_row rule

-- a length of a rule with an id of 1 to `last`
pub record SpellsLength (last : ℕ) (row : Row) : Type 0 where
  pub length : RuleLength
  pub fits : IsLength last length
  pub is : row ≡ suppress_row length

-- the one row of a count
pub record SpellsCount (rows : List Row) : Type 0 where
  pub count : ℕ
  pub fits : IsCount count
  pub is : rows ≡ meta_rows count
