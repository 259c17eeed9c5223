-- What the statements of a commit do.
use Rattle.std.specs.Prelude.{◌≤◌, ◌<◌, ◌^◌, ℕ, [], Option, None, Result, IsTrue}
use Rattle.sqlite.specs.Held.{Held, state}
use Rattle.sqlite.specs.State.{ExecutesInside, HasCleanDisk, Survives}
use Rattle.sqlite.specs.Store.{Ghosts}
use Rattle.sqlite.specs.declared.error.Error.{Error}
use Rattle.sqlite_value.specs.Order.{Row}
use Rattle.prt_addr.specs.Word.{Word}
use Rattle.prt_route.specs.declared.edit.RouteEdit.TheVariants.{Put, Remove, Flush}
use Rattle.prt_rows.specs.Kept.{id_values, key_values}
use Rattle.prt_rows.specs.RouteRow.{IsInRange, route_row}
use Rattle.prt_rows.specs.RuleRow.{IsRule, rule_row}
use Rattle.prt_rows.specs.Selecting.{IsSelector, selector_row}
use Rattle.prt_rows.specs.Statements.{delete_route, delete_rule, flush_routes, flush_rules, insert_route, insert_rule, put_route}
use Rattle.prt_rows.specs.declared.suppress_row.RuleLength.{RuleLength}
use Rattle.prt_version.specs.declared.change.Change.{Change}
use Rattle.prt_version.specs.declared.change.Change.TheVariants as change
use Rattle.prt_store.specs.Lengths.{length_of, plain}

-- the statement that makes a change
abbrev pub text_of : Change → Word
text_of (change.Route (Put route)) = put_route
text_of (change.Route (Remove key)) = delete_route
text_of (change.Route (Flush selector)) = flush_routes
text_of (change.RouteAdd route) = insert_route
text_of (change.RulePut rule) = insert_rule
text_of (change.RuleDrop id) = delete_rule
text_of change.RuleFlush = flush_rules

-- its parameters
abbrev pub values_of : Change → Row
values_of (change.Route (Put route)) = route_row route
values_of (change.Route (Remove key)) = key_values key
values_of (change.Route (Flush selector)) = selector_row selector
values_of (change.RouteAdd route) = route_row route
values_of (change.RulePut rule) = rule_row rule
values_of (change.RuleDrop id) = id_values id
values_of change.RuleFlush = []

-- the length of the rule that it puts, if it puts one that has a length
abbrev pub length_put : Change → Option RuleLength
length_put (change.RulePut rule) = length_of rule
length_put _ = None

-- inside a transaction the statement runs, or is refused
abbrev pub RunsInside : {S : Type 0} → Ghosts S → Word → Row → Held S → Held S → Result ℕ Error → Type 0
RunsInside g sql params old new result = HasCleanDisk (state g new) → IsTrue (state g old).in_transaction →
    ExecutesInside 0 sql params (state g old) (state g new) result

-- a crash leaves nothing that it could not leave before
abbrev pub CommitsNothing : {S : Type 0} → Ghosts S → Held S → Held S → Type 0
CommitsNothing g old new = Survives (state g old) (state g new) (λ _. ⊥)

-- the ids in it are ones that an integer of the file can be
abbrev pub HasStorableIds : Change → Type 0
HasStorableIds (change.RulePut rule) = rule.id < 2 ^ 63
HasStorableIds (change.RuleDrop id) = id < 2 ^ 63
HasStorableIds _ = Unit {0}

-- what the types of its fields say of a route that is put or added, of a rule, and of a selector
abbrev pub IsTyped : Change → Type 0
IsTyped (change.Route (Put route)) = IsInRange route
IsTyped (change.Route (Flush selector)) = IsSelector selector
IsTyped (change.RouteAdd route) = IsInRange route
IsTyped (change.RulePut rule) = 1 ≤ rule.id → IsRule rule.id (plain rule)
IsTyped _ = Unit {0}
