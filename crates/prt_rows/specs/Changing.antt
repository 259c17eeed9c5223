-- What each statement that writes does to the rows of a file whose first tables are ours.
use Rattle.std.specs.Prelude.{◌≡◌, ℕ, [], ◌∷◌, List, Ok}
use Rattle.sqlite.specs.Held.{Held, state}
use Rattle.sqlite.specs.State.{Executes}
use Rattle.sqlite.specs.Store.{Ghosts}
use Rattle.sqlite.specs.Table.{Table}
use Rattle.sqlite.specs.Term.{Term}
use Rattle.sqlite_value.specs.Order.{Row}
use Rattle.prt_addr.specs.Word.{Word}
use Rattle.prt_route.specs.declared.route.Route.{Route}
use Rattle.prt_rule.specs.declared.rule.Rule.{Rule}
use Rattle.prt_rows.specs.Effects.{Adds, AreRouteRows, Deletes, DeletesRules, IsKeyed, Puts, PutsBeside, Sets}
use Rattle.prt_rows.specs.Format.{IsFormat2}
use Rattle.prt_rows.specs.Kept.{count_values, kept_count, kept_count_1, kept_length, kept_rule}
use Rattle.prt_rows.specs.RouteRow.{route_row}
use Rattle.prt_rows.specs.RuleRow.{rule_row}
use Rattle.prt_rows.specs.SuppressRow.{suppress_row}
use Rattle.prt_rows.specs.Tables.{meta_table, route_table, rule_table, suppress_table}
use Rattle.prt_rows.specs.declared.suppress_row.RuleLength.{RuleLength}

-- the statement ran in such a file
abbrev pub RunsIn : {S : Type 0} → Ghosts S → Word → Row → Held S → Held S → Type 0
RunsIn g text params old new = IsFormat2 (state g old).now.schema × ((changed : ℕ) × Executes text params (state g old) (state g new) (Ok changed))

-- exactly the rows that pass the tests are gone
abbrev pub DeletesRows : {S : Type 0} → Ghosts S → Word → Table → List Term → Type 0
DeletesRows {S = S} g text table tests = (old new : Held S) (params : Row) → RunsIn g text params old new →
    IsKeyed ((state g old).now.trees table.tree) → Deletes table tests params (state g old).now (state g new).now

-- exactly the rules that pass the tests are gone, and their lengths
abbrev pub DeletesTheRules : {S : Type 0} → Ghosts S → Word → List Term → Type 0
DeletesTheRules {S = S} g text tests = (old new : Held S) (params : Row) → RunsIn g text params old new →
    IsKeyed ((state g old).now.trees rule_table.tree) → IsKeyed ((state g old).now.trees suppress_table.tree)
    → DeletesRules tests params (state g old).now (state g new).now

-- the route's row is there, in the place of the one that had its key
abbrev pub PutsRoute : {S : Type 0} → Ghosts S → Word → Type 0
PutsRoute {S = S} g text = (old new : Held S) (route : Route) → RunsIn g text (route_row route) old new →
    AreRouteRows ((state g old).now.trees route_table.tree) → IsKeyed ((state g old).now.trees route_table.tree)
    → Puts route (state g old).now (state g new).now

-- the route's row is there beside the others, none of which has its key
abbrev pub AddsRoute : {S : Type 0} → Ghosts S → Word → Type 0
AddsRoute {S = S} g text = (old new : Held S) (route : Route) → RunsIn g text (route_row route) old new →
    AreRouteRows ((state g old).now.trees route_table.tree) → IsKeyed ((state g old).now.trees route_table.tree)
    → PutsBeside route (state g old).now (state g new).now

-- the rule's row is there beside the others
abbrev pub AddsRule : {S : Type 0} → Ghosts S → Word → Type 0
AddsRule {S = S} g text = (old new : Held S) (rule : Rule) → RunsIn g text (rule_row rule) old new →
    Adds rule_table (kept_rule rule) (state g old).now (state g new).now

-- the row of `meta` is that of the count
abbrev pub SetsCount : {S : Type 0} → Ghosts S → Word → Type 0
SetsCount {S = S} g text = (old new : Held S) (before count : ℕ) → RunsIn g text (count_values count) old new →
    (state g old).now.trees meta_table.tree ≡ kept_count before ∷ []
    → Sets meta_table (kept_count count) (state g old).now (state g new).now

-- the row of `meta`, which was that of format 1, is that of format 2
abbrev pub SetsFormat : {S : Type 0} → Ghosts S → Word → Type 0
SetsFormat {S = S} g text = (old new : Held S) (count : ℕ) → RunsIn g text [] old new →
    (state g old).now.trees meta_table.tree ≡ kept_count_1 count ∷ [] → Sets meta_table (kept_count count) (state g old).now (state g new).now

-- the row of the length is there beside the others
abbrev pub AddsLength : {S : Type 0} → Ghosts S → Word → Type 0
AddsLength {S = S} g text = (old new : Held S) (length : RuleLength) → RunsIn g text (suppress_row length) old new →
    Adds suppress_table (kept_length length) (state g old).now (state g new).now
