-- What the exits of a store's calls say of its file: what its tables encode, and what a crash may leave.
use Rattle.std.specs.Prelude.{◌≡◌, ◌⊎◌, Bool, true}
use Rattle.sqlite.specs.Effect.{Database, IsDatabase}
use Rattle.sqlite.specs.Held.{Held, state}
use Rattle.sqlite.specs.Schema.{Schema}
use Rattle.sqlite.specs.State.{HasCleanDisk}
use Rattle.sqlite.specs.Store.{Ghosts}
use Rattle.sqlite.specs.Table.{Table}
use Rattle.sqlite.specs.Tree.{Trees}
use Rattle.sqlite_rules.specs.Lists.{Has}
use Rattle.prt_rows.specs.Effects.{AreEmpty}
use Rattle.prt_rows.specs.Format.{BeginsFormat2}
use Rattle.prt_rows.specs.Tables.{our_tables}
use Rattle.prt_store.specs.Adopted.{Adopts}
use Rattle.prt_store.specs.Stored.{Stores, StoresFormat1}
use Rattle.prt_version.specs.State.{State, opening_state}

-- These trees are those of a database whose tables encode the state.
pub record Spells (trees : Trees) (stored : State) : Type 0 where
  pub schema : Schema
  pub sound : IsDatabase (record { schema = schema; trees = trees })
  pub stores : Stores (record { schema = schema; trees = trees }) stored

-- a crash may leave a file that encodes the state
abbrev pub MayLeave : {S : Type 0} → Ghosts S → Held S → State → Type 0
MayLeave g tables left = (trees : Trees) × (state g tables).may_leave trees × Spells trees left

-- what an opening makes of the file encodes the state
abbrev pub Opens : Database → State → Type 0
Opens found opened = (db : Database) × Adopts found db × Stores db opened

-- The file has this state: its tables encode it, in format 2 or in format 1, or it is new, and they have no rows.
abbrev pub HasState : Database → State → Type 0
HasState db stored = Spells db.trees stored ⊎ (StoresFormat1 db stored ⊎ (BeginsFormat2 db.schema × AreEmpty db × (stored ≡ opening_state)))

-- The tables encode the state, and so does whatever a crash leaves.
pub record IsStored {S : Type 0} (g : Ghosts S) (tables : Held S) (stored : State) : Type 0 where
  pub now : Stores (state g tables).now stored
  pub durable : (trees : Trees) → (state g tables).may_leave trees → Spells trees stored

-- what is known of a file rests on this: its first tables are ours, and the disk has returned what was written
abbrev pub IsKnown : {S : Type 0} → Ghosts S → Bool → Held S → Type 0
IsKnown g ours_first tables = (ours_first ≡ true) × HasCleanDisk (state g tables)

-- the schema stays, and so do the rows of each table that is not ours
pub record SparesOthers (old new : Database) : Type 0 where
  pub schema : new.schema ≡ old.schema
  pub rows : (table : Table) → Has old.schema.tables table → (Has our_tables table → ⊥) → new.trees table.tree ≡ old.trees table.tree
