-- What the statements that read and look at the tables show, whatever other tables the file has.
use Rattle.std.specs.Prelude.{◌≡◌, ◌≢◌, ◌⊎◌, ℕ, ◌+◌, List, [], All, Any, IsPermutation, None, drop, false, map, true}
use Rattle.sqlite.specs.Held.{Held, state}
use Rattle.sqlite.specs.State.{Shown}
use Rattle.sqlite.specs.Store.{Ghosts}
use Rattle.sqlite_value.specs.Order.{Row}
use Rattle.prt_addr.specs.Word.{Word}
use Rattle.prt_route.specs.declared.route.Route.{Route}
use Rattle.prt_rows.specs.Decodes.{Decodes}
use Rattle.prt_rows.specs.MetaRow.{IsCount, meta_rows, meta_rows_1}
use Rattle.prt_rows.specs.RouteRow.{IsInRange, route_row}
use Rattle.prt_rows.specs.Rowids.{rowids_rise}
use Rattle.prt_rows.specs.RuleRow.{IsRule, rule_row}
use Rattle.prt_rows.specs.Statements.{look_at_meta, look_at_routes, look_at_rules, look_at_suppress, read_meta, read_routes, read_rules, read_suppress}
use Rattle.prt_rows.specs.SuppressRow.{IsLength, suppress_row}
use Rattle.prt_rows.specs.declared.suppress_row.RuleLength.{RuleLength}
use Rattle.prt_rule.specs.declared.rule.Rule.{Rule}
use Rattle.prt_store.specs.Lengths.{left_over, lengths_of, merged}
use Rattle.prt_store.specs.Stored.{FitsTables}
use Rattle.prt_store.specs.declared.opening.OurTable.{OurTable}
use Rattle.prt_store.specs.declared.opening.OurTable.TheVariants as ours
use Rattle.prt_version.specs.RowsSpell.{RowsSpellNone}
use Rattle.prt_version.specs.State.{State}

-- of the database as it is, the statement showed these rows
abbrev pub ShowsRows : {S : Type 0} → Ghosts S → Held S → Word → List Row → Type 0
ShowsRows {S = S} g conn sql rows = (before after : Held S) × ((state g before).now ≡ (state g conn).now) × Shown sql [] (state g before) (state g after) rows

-- ---- one table

-- `meta` showed the one row of this count
pub record ShowsCount {S : Type 0} (g : Ghosts S) (conn : Held S) (count : ℕ) : Type 0 where
  pub shown : ShowsRows g conn read_meta (meta_rows count)
  pub fits : IsCount count

-- `rule` showed one row for each of these rules, in this order, without its length; their ids rise, and are at most `last`
pub record ShowsRules {S : Type 0} (g : Ghosts S) (last : ℕ) (conn : Held S) (rules : List Rule) : Type 0 where
  pub shown : ShowsRows g conn read_rules (map rule_row rules)
  pub rise : rowids_rise (map rule_row rules) ≡ true
  pub fit : All (IsRule last) rules

-- `suppress` showed one row for each of these lengths, in this order, of rules with ids of at most `last`
pub record ShowsLengths {S : Type 0} (g : Ghosts S) (last : ℕ) (conn : Held S) (lengths : List RuleLength) : Type 0 where
  pub shown : ShowsRows g conn read_suppress (map suppress_row lengths)
  pub fit : All (IsLength last) lengths

-- `route` showed one row for each of these routes, in this order, with rowids that rise before them
pub record ShowsRoutes {S : Type 0} (g : Ghosts S) (conn : Held S) (routes : List Route) : Type 0 where
  pub rows : List Row
  pub shown : ShowsRows g conn read_routes rows
  pub rise : rowids_rise rows ≡ true
  pub parts : map (drop 1) rows ≡ map route_row routes
  pub fit : All IsInRange routes

-- ---- the four tables together

-- the rows that the statement showed are these, in some order
abbrev pub ShowsInSomeOrder : {S : Type 0} → Ghosts S → Held S → Word → List Row → Type 0
ShowsInSomeOrder g conn sql rows = (shown : List Row) × ShowsRows g conn sql shown × IsPermutation shown rows

-- The four SELECTs showed exactly the rows of this state. `meta` showed its count. The others showed one row for each rule,
-- length and route, in any order. A route's row begins with its rowid, which is left out; these rise.
pub record ShowsState {S : Type 0} (g : Ghosts S) (conn : Held S) (stored : State) : Type 0 where
  pub count : ShowsRows g conn read_meta (meta_rows stored.count)
  pub rules : ShowsInSomeOrder g conn read_rules (map rule_row stored.rules)
  pub lengths : ShowsInSomeOrder g conn read_suppress (map suppress_row (lengths_of stored.rules))
  pub routes : (shown : List Row) × ShowsRows g conn read_routes shown × (rowids_rise shown ≡ true)
      × IsPermutation (map (drop 1) shown) (map route_row stored.routes)
  pub fits : FitsTables stored

-- ---- damage

-- The rows that the statement showed encode no list: their rowids don't rise, or a part of one of them is written for
-- nothing that fits.
abbrev pub ShowsBadRows : {S X : Type 0} → Ghosts S → Held S → Word → (X → Row) → (X → Type 0) → (Row → Row) → Type 0
ShowsBadRows g conn sql write Fits part =
    (rows : List Row) × ShowsRows g conn sql rows × ((rowids_rise rows ≡ false) ⊎ Any (λ v. Decodes write Fits v None) (map part rows))

-- `meta` showed other rows than the one of a count
abbrev pub ShowsNoCount : {S : Type 0} → Ghosts S → Held S → Type 0
ShowsNoCount g conn = (rows : List Row) × ShowsRows g conn read_meta rows × ((count : ℕ) → IsCount count → rows ≢ meta_rows count)

-- after this count, one of the other tables showed rows that encode no list
abbrev pub ShowsBadTable : {S : Type 0} → Ghosts S → Held S → ℕ → Type 0
ShowsBadTable g conn count =
    ShowsBadRows g conn read_rules rule_row (IsRule (count + 3)) (λ row. row)
    ⊎ (ShowsBadRows g conn read_suppress suppress_row (IsLength (count + 3)) (λ row. row) ⊎ ShowsBadRows g conn read_routes route_row IsInRange (drop 1))

-- the three tables showed rows that no state has together: a length of no rule, or rules and routes of no state
pub record ShowsNoState {S : Type 0} (g : Ghosts S) (conn : Held S) (count : ℕ) : Type 0 where
  pub rules : List Rule
  pub lengths : List RuleLength
  pub routes : List Route
  pub show_rules : ShowsRules g (count + 3) conn rules
  pub show_lengths : ShowsLengths g (count + 3) conn lengths
  pub show_routes : ShowsRoutes g conn routes
  pub none : (left_over rules lengths ≢ []) ⊎ RowsSpellNone count (merged rules lengths) routes

-- The SELECTs showed rows that encode no state: of `meta`, of another table, or of all four together.
abbrev pub ShowsDamage : {S : Type 0} → Ghosts S → Held S → Type 0
ShowsDamage g conn = ShowsNoCount g conn ⊎ ((count : ℕ) × ShowsCount g conn count × (ShowsBadTable g conn count ⊎ ShowsNoState g conn count))

-- ---- looking

-- the statement that shows the rowids of a table
abbrev pub look_at : OurTable → Word
look_at ours.Rule = look_at_rules
look_at ours.Route = look_at_routes
look_at ours.Meta = look_at_meta
look_at ours.Suppress = look_at_suppress

-- the statement that looks at the table showed no row
abbrev pub ShowsNoRow : {S : Type 0} → Ghosts S → Held S → OurTable → Type 0
ShowsNoRow g conn table = ShowsRows g conn (look_at table) []

-- it showed at least one row
abbrev pub ShowsSomeRow : {S : Type 0} → Ghosts S → Held S → OurTable → Type 0
ShowsSomeRow g conn table = (rows : List Row) × ShowsRows g conn (look_at table) rows × (rows ≢ [])

-- some table was shown to have a row
abbrev pub ShowsContents : {S : Type 0} → Ghosts S → Held S → Type 0
ShowsContents g conn = (table : OurTable) × ShowsSomeRow g conn table

-- the statement that reads `meta` showed the row of format 1
abbrev pub ShowsFormat1 : {S : Type 0} → Ghosts S → Held S → Type 0
ShowsFormat1 g conn = (count : ℕ) × IsCount count × ShowsRows g conn read_meta (meta_rows_1 count)

-- it showed anything but the one row of format 1 with a count in range
abbrev pub ShowsOtherFormat : {S : Type 0} → Ghosts S → Held S → Type 0
ShowsOtherFormat g conn = (rows : List Row) × ShowsRows g conn read_meta rows × ((count : ℕ) → IsCount count → rows ≢ meta_rows_1 count)

-- `meta` showed the row of format 1, and `suppress` no row
abbrev pub ShowsDue : {S : Type 0} → Ghosts S → Held S → Type 0
ShowsDue g conn = ShowsFormat1 g conn × ShowsNoRow g conn ours.Suppress

-- `meta` showed something else, or `suppress` a row
abbrev pub ShowsNotDue : {S : Type 0} → Ghosts S → Held S → Type 0
ShowsNotDue g conn = ShowsOtherFormat g conn ⊎ ShowsSomeRow g conn ours.Suppress
