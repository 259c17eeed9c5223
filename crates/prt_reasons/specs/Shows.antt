-- What is read of the four tables.
use Rattle.std.specs.Prelude.{◌≡◌, List, map, IsPermutation, Result, IfErr, IfOk}
use Rattle.sqlite.specs.Effect.{Database, IsDatabase}
use Rattle.sqlite.specs.Held.{Held, state}
use Rattle.sqlite.specs.State.{HasCleanDisk, IsLive, State as Conn}
use Rattle.sqlite.specs.Store.{Ghosts}
use Rattle.sqlite_value.specs.Order.{Row}
use Rattle.prt_addr.specs.Word.{Word}
use Rattle.prt_refusals.specs.declared.refusal.Refusal.{Refusal}
use Rattle.prt_refusals.specs.declared.refusal.Refusal.TheVariants.{Damaged}
use Rattle.prt_rows.specs.Format.{IsFormat2}
use Rattle.prt_rows.specs.Kept.{with_key_column}
use Rattle.prt_rows.specs.Statements.{read_meta, read_routes, read_rules, read_suppress}
use Rattle.prt_rows.specs.Tables.{meta_table, route_table, rule_table, suppress_table}
use Rattle.prt_store.specs.Loaded.{ReadsOnly}
use Rattle.prt_reasons.specs.declared.reason.DatabaseTable.{DatabaseTable}
use Rattle.prt_reasons.specs.declared.reason.DatabaseTable.TheVariants as ours
use Rattle.prt_reasons.specs.declared.all_rows.AllRows.{AllRows}

-- the statement that reads a table
abbrev pub text : DatabaseTable → Word
text ours.Rule = read_rules
text ours.Route = read_routes
text ours.Meta = read_meta
text ours.Suppress = read_suppress

-- the table keeps these rows, in some order
abbrev pub ShowsRows : DatabaseTable → Database → List Row → Type 0
ShowsRows ours.Rule db rows = IsPermutation (db.trees rule_table.tree) (map with_key_column rows)
ShowsRows ours.Route db rows = IsPermutation (db.trees route_table.tree) rows
ShowsRows ours.Meta db rows = IsPermutation (db.trees meta_table.tree) (map with_key_column rows)
ShowsRows ours.Suppress db rows = IsPermutation (db.trees suppress_table.tree) (map with_key_column rows)

-- the four tables keep these rows
pub record ShowsAll (db : Database) (rows : AllRows) : Type 0 where
  pub meta : ShowsRows ours.Meta db rows.meta.items
  pub rules : ShowsRows ours.Rule db rows.rules.items
  pub lengths : ShowsRows ours.Suppress db rows.lengths.items
  pub routes : ShowsRows ours.Route db rows.routes.items

-- the connection has our tables, and its rows are as their schema says
pub record IsReadable (conn : Conn) : Type 0 where
  pub tables : IsFormat2 conn.now.schema
  pub live : IsLive conn

-- what holds of a database of ours, whose rows are as its schema says
abbrev pub OfOurs : (Database → Type 0) → Database → Type 0
OfOurs P db = IsFormat2 db.schema → IsDatabase db → P db

-- If the first tables are ours, what was read is what they encode, and `Damaged` comes only if they encode no such thing.
-- Nothing is changed.
pub record Reads {S X V : Type 0} (g : Ghosts S) (seen : X → V) (Spells : Database → V → Type 0) (old new : Held S) (result : Result X Refusal) : Type 0 where
  pub ok : HasCleanDisk (state g new) → IsReadable (state g old) → IfOk result (λ value. Spells (state g old).now (seen value))
  pub damaged : HasCleanDisk (state g new) → IsReadable (state g old) →
      IfErr result (λ reason. reason ≡ Damaged → (value : V) → Spells (state g old).now value → ⊥)
  pub only : ReadsOnly g old new result
