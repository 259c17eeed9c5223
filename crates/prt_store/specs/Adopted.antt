-- What an opening makes of a file.
use Rattle.std.specs.Prelude.{◌≡◌, ◌≢◌, ◌⊎◌, ℕ, [], ◌∷◌, false, IsTrue}
use Rattle.sqlite.specs.Effect.{Database, IsDatabase}
use Rattle.sqlite.specs.Held.{Held, state}
use Rattle.sqlite.specs.State.{HasCleanDisk, Survives}
use Rattle.sqlite.specs.Store.{Ghosts}
use Rattle.sqlite.specs.Table.{Table}
use Rattle.sqlite.specs.Tree.{Trees}
use Rattle.sqlite_rules.specs.Lists.{Has}
use Rattle.prt_rows.specs.Effects.{AreEmpty, IsOfFormat1, KeepsTables, Migrates}
use Rattle.prt_rows.specs.Format.{BeginsFormat2, HasFormat2, IsFormat2, SuitsFormat2}
use Rattle.prt_rows.specs.Kept.{kept_count}
use Rattle.prt_rows.specs.Tables.{meta_table, our_tables}
use Rattle.prt_store.specs.Stored.{Stores}
use Rattle.prt_version.specs.State.{opening_state}

-- Each table that was there is there with its rows, but that the row of `meta`, which was that of format 1, is now that of format
-- 2 with the same count. Of ours some may have been made, which have no rows.
pub record MigratesTables (old new : Database) : Type 0 where
  pub count : ℕ
  pub was : IsOfFormat1 old count
  pub row : new.trees meta_table.tree ≡ kept_count count ∷ []
  pub there : Has new.schema.tables meta_table
  pub kept : (table : Table) → Has old.schema.tables table → table.tree ≢ meta_table.tree →
      Has new.schema.tables table × (new.trees table.tree ≡ old.trees table.tree)
  pub made : (table : Table) → Has new.schema.tables table → Has old.schema.tables table ⊎ (Has our_tables table × (new.trees table.tree ≡ []))

-- The four tables had no rows, and now encode the opening state. Each other table is there with its rows, and no other was
-- made.
pub record IsFilled (old new : Database) : Type 0 where
  pub empty : AreEmpty old
  pub opening : Stores new opening_state
  pub others : (table : Table) → Has old.schema.tables table → (Has our_tables table → ⊥) →
      Has new.schema.tables table × (new.trees table.tree ≡ old.trees table.tree)
  pub made : (table : Table) → Has new.schema.tables table → Has old.schema.tables table ⊎ Has our_tables table

-- each table has the rows that it had, and the file had rows and was not of format 1
pub record KeepsFile (old new : Database) : Type 0 where
  pub some : AreEmpty old → ⊥
  pub not_due : (count : ℕ) → IsOfFormat1 old count → ⊥
  pub keeps : KeepsTables old new

-- What an opening leaves: the four tables are the first, and each table has the rows that it had, or the file was of format 1 and
-- is of format 2, or the four had no rows and were filled.
pub record Adopts (old new : Database) : Type 0 where
  pub tables : IsFormat2 new.schema
  pub rows : KeepsFile old new ⊎ (MigratesTables old new ⊎ IsFilled old new)

-- What an opening leaves that is stopped or refused: some or all of the missing tables were made, and they may have been migrated or filled.
pub record AdoptsPart (old new : Database) : Type 0 where
  pub tables : BeginsFormat2 new.schema
  pub rows : KeepsTables old new ⊎ (MigratesTables old new ⊎ IsFilled old new)

-- these trees are those of a file as a stopped opening leaves it
pub record LeavesPart (old : Database) (trees : Trees) : Type 0 where
  pub db : Database
  pub is : trees ≡ db.trees
  pub sound : IsDatabase db
  pub part : AdoptsPart old db

-- these trees are those of the file, migrated if it was of format 1
pub record LeavesMigrated (old : Database) (trees : Trees) : Type 0 where
  pub db : Database
  pub is : trees ≡ db.trees
  pub sound : IsDatabase db
  pub migrates : Migrates old db

-- nothing is pending: the connection is open, in no transaction, and what it shows is committed
pub record IsSettled {S : Type 0} (g : Ghosts S) (conn : Held S) : Type 0 where
  pub is_open : IsTrue (state g conn).is_open
  pub autocommit : (state g conn).in_transaction ≡ false
  pub committed : (state g conn).now ≡ (state g conn).committed

-- nothing is pending, and a crash leaves what the tables show
pub record IsAtRest {S : Type 0} (g : Ghosts S) (conn : Held S) : Type 0 where
  pub settled : IsSettled g conn
  pub crash : (trees : Trees) → (state g conn).may_leave trees → trees ≡ (state g conn).now.trees

-- a connection that was found so was adopted, which made it this one
pub record AdoptsOne {S : Type 0} (g : Ghosts S) (IsFound : Held S → Type 0) (now : Held S) : Type 0 where
  pub was : Held S
  pub found : IsFound was
  pub adopted : HasCleanDisk (state g now) → BeginsFormat2 (state g was).now.schema → Adopts (state g was).now (state g now).now × IsSettled g now
  pub columns : HasFormat2 (state g now).now.schema
  pub rest : IsTrue (state g now).is_open → IsAtRest g now
  pub survives : (HasCleanDisk (state g was) → BeginsFormat2 (state g was).now.schema) → Survives (state g was) (state g now) (LeavesPart (state g was).now)

-- a connection that was found so was not adopted, and was left as this one
pub record RefusesOne {S : Type 0} (g : Ghosts S) (IsFound : Held S → Type 0) (left : Held S) : Type 0 where
  pub was : Held S
  pub found : IsFound was
  pub part : HasCleanDisk (state g left) → IsTrue (state g left).is_open → BeginsFormat2 (state g was).now.schema →
      AdoptsPart (state g was).now (state g left).now
  pub other_columns : (SuitsFormat2 (state g was).now.schema → ⊥) → left ≡ was
  pub survives : (HasCleanDisk (state g was) → BeginsFormat2 (state g was).now.schema) → Survives (state g was) (state g left) (LeavesPart (state g was).now)
