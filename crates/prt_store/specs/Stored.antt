-- The state that the tables of a database encode.
use Rattle.std.specs.Prelude.{◌≡◌, ◌+◌, [], ◌∷◌, drop, map, IsPermutation}
use Rattle.sqlite.specs.Effect.{Database}
use Rattle.sqlite_rules.specs.Lists.{Has}
use Rattle.prt_route.specs.declared.route.Route.{Route}
use Rattle.prt_rule.specs.declared.rule.Rule.{Rule}
use Rattle.prt_rows.specs.Effects.{IsKeyed, IsOfFormat1}
use Rattle.prt_rows.specs.Kept.{kept_count, kept_length, kept_rule}
use Rattle.prt_rows.specs.Format.{BeginsWithMeta, IsFormat2}
use Rattle.prt_rows.specs.RouteRow.{IsInRange, route_row}
use Rattle.prt_rows.specs.RuleRow.{IsRule}
use Rattle.prt_rows.specs.Tables.{meta_table, route_table, rule_table, suppress_table}
use Rattle.prt_version.specs.RowsSpell.{IsStorableState}
use Rattle.prt_version.specs.Sound.{IsSound}
use Rattle.prt_version.specs.State.{State}
use Rattle.prt_store.specs.Lengths.{lengths_of, plain}

-- the state is one that a version may have and a table may hold, and each of its values is in the range of its column
pub record FitsTables (state : State) : Type 0 where
  pub sound : IsSound state
  pub rules : (rule : Rule) → Has state.rules rule → IsRule (state.count + 3) (plain rule)
  pub routes : (route : Route) → Has state.routes route → IsInRange route
  pub storable : IsStorableState state

-- The tables encode this state: in some order their rows are those of its rules, of its routes, of its count and of the
-- lengths of its rules. The rowid of a rule is its id; a route has any.
pub record Stores (db : Database) (state : State) : Type 0 where
  pub tables : IsFormat2 db.schema
  pub rules : IsPermutation (db.trees rule_table.tree) (map kept_rule state.rules)
  pub routes : IsPermutation (map (drop 1) (db.trees route_table.tree)) (map route_row state.routes)
  pub keyed : IsKeyed (db.trees route_table.tree)
  pub lengths : IsPermutation (db.trees suppress_table.tree) (map kept_length (lengths_of state.rules))
  pub count : db.trees meta_table.tree ≡ kept_count state.count ∷ []
  pub fits : FitsTables state

-- The tables of a file of format 1 encode this state, of which no rule has a length: as those of format 2 do, except that
-- the row of the count names format 1. The table of lengths may be missing.
pub record StoresFormat1 (db : Database) (state : State) : Type 0 where
  pub tables : BeginsWithMeta db.schema
  pub rules : IsPermutation (db.trees rule_table.tree) (map kept_rule state.rules)
  pub routes : IsPermutation (map (drop 1) (db.trees route_table.tree)) (map route_row state.routes)
  pub keyed : IsKeyed (db.trees route_table.tree)
  pub format : IsOfFormat1 db state.count
  pub none : lengths_of state.rules ≡ []
  pub fits : FitsTables state
