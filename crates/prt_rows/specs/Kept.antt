-- Rows as a table keeps them, with the rowid first, and the parameters that name them.
use Rattle.std.specs.Prelude.{ℕ, [], ◌∷◌, drop}
use Rattle.sqlite_value.specs.declared.value.Value.{Value}
use Rattle.sqlite_value.specs.declared.value.Value.TheVariants.{Null}
use Rattle.sqlite_value.specs.Order.{Row}
use Rattle.prt_route.specs.declared.route.Route.{Route}
use Rattle.prt_route.specs.declared.route.RouteKey.{RouteKey}
use Rattle.prt_rule.specs.declared.rule.Rule.{Rule}
use Rattle.prt_rows.specs.Cell.{number}
use Rattle.prt_rows.specs.MetaRow.{meta_row, meta_row_1}
use Rattle.prt_rows.specs.RouteRow.{route_row}
use Rattle.prt_rows.specs.RuleRow.{rule_row}
use Rattle.prt_rows.specs.SuppressRow.{suppress_row}
use Rattle.prt_rows.specs.declared.suppress_row.RuleLength.{RuleLength}

-- a row whose first value is its rowid and its id, as it is kept
abbrev pub with_key_column : Row → Row
with_key_column [] = []
with_key_column (id ∷ row) = id ∷ Null ∷ row

-- the rowid of a rule is its id, and NULL is in the id's own column
abbrev pub kept_rule : Rule → Row
kept_rule rule = number rule.id ∷ Null ∷ drop 1 (rule_row rule)

-- the rowid of a route is any integer
abbrev pub kept_route : Value → Route → Row
kept_route rowid route = rowid ∷ route_row route

abbrev pub key_values : RouteKey → Row
key_values key = number key.table ∷ number key.prefix.bits ∷ number key.prefix.len ∷ number key.metric ∷ []

abbrev pub id_values : ℕ → Row
id_values id = number id ∷ []

-- the rowid of the row of `meta` is its id
abbrev pub kept_count : ℕ → Row
kept_count count = number 1 ∷ Null ∷ drop 1 (meta_row count)

-- the same in a file of format 1
abbrev pub kept_count_1 : ℕ → Row
kept_count_1 count = number 1 ∷ Null ∷ drop 1 (meta_row_1 count)

-- the rowid of a length is the id of its rule
abbrev pub kept_length : RuleLength → Row
kept_length length = number length.rule ∷ Null ∷ drop 1 (suppress_row length)

abbrev pub count_values : ℕ → Row
count_values count = number count ∷ []
