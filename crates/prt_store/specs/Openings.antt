-- What the steps of an opening do.
use Rattle.std.specs.Prelude.{◌≡◌, ◌⊎◌, ℕ, Bool, true, false, [], ◌∷◌, Result, Ok, IfOk, IsTrue, MatchBool, OnErr, OnOk}
use Rattle.sqlite.specs.Effect.{Database}
use Rattle.sqlite.specs.Held.{Held, state}
use Rattle.sqlite.specs.Schema.{Schema}
use Rattle.sqlite.specs.State.{Executes, HasCleanDisk, IsUnchanged, KeepsCommit, Survives}
use Rattle.sqlite.specs.Store.{Ghosts}
use Rattle.sqlite.specs.Table.{Table}
use Rattle.sqlite.specs.Tree.{Trees}
use Rattle.sqlite.specs.declared.error.Error.{Error}
use Rattle.sqlite_value.specs.Order.{Row}
use Rattle.prt_addr.specs.Word.{Word}
use Rattle.prt_refusals.specs.declared.refusal.Refusal.{Refusal}
use Rattle.prt_route.specs.Names.{default_table, local_table, main_table}
use Rattle.prt_rows.specs.Effects.{IsOfFormat1, KeepsTables}
use Rattle.prt_rows.specs.Format.{BeginsFormat2, has_table}
use Rattle.prt_rows.specs.Kept.{kept_count_1}
use Rattle.prt_rows.specs.MetaRow.{IsCount, meta_row}
use Rattle.prt_rows.specs.RuleRow.{rule_row}
use Rattle.prt_rows.specs.Statements.{create_meta, create_route, create_rule, create_suppress, insert_meta, insert_rule, migrate}
use Rattle.prt_rows.specs.Tables.{meta_table, route_table, rule_table, suppress_table}
use Rattle.prt_store.specs.Adopted.{Adopts, AdoptsPart, IsSettled, LeavesPart}
use Rattle.prt_store.specs.Shown.{ShowsContents, ShowsDue, ShowsNoRow, ShowsNotDue}
use Rattle.prt_store.specs.Written.{CommitsNothing}
use Rattle.prt_store.specs.declared.opening.OurTable.{OurTable}
use Rattle.prt_store.specs.declared.opening.OurTable.TheVariants as ours
use Rattle.prt_store.specs.declared.opening.Step.{Step}
use Rattle.prt_store.specs.declared.opening.Step.TheVariants as step
use Rattle.prt_version.specs.State.{table_rule}

-- the connection, with a transaction that has just begun
abbrev pub begun_from : {S : Type 0} → Held S → Held S
begun_from old = record old { in_transaction = true }

-- ---- the four tables

abbrev pub table_of : OurTable → Table
table_of ours.Rule = rule_table
table_of ours.Route = route_table
table_of ours.Meta = meta_table
table_of ours.Suppress = suppress_table

-- the statement that makes a table
abbrev pub create : OurTable → Word
create ours.Rule = create_rule
create ours.Route = create_route
create ours.Meta = create_meta
create ours.Suppress = create_suppress

-- ---- inside a transaction

-- the statement ran
abbrev pub Ran : {S : Type 0} → Ghosts S → Word → Row → Held S → Held S → Type 0
Ran g sql params old new = (count : ℕ) × Executes sql params (state g old) (state g new) (Ok count)

-- one thing was done, then the other
abbrev pub InTurn : {X : Type 0} → (X → X → Type 0) → (X → X → Type 0) → X → X → Type 0
InTurn {X = X} First Next old new = (mid : X) × First old mid × Next mid new

-- this was done, or it was refused; nothing was committed
pub record Works {S : Type 0} (g : Ghosts S) (Does : Held S → Held S → Type 0) (old new : Held S) (result : Result ℕ Error) : Type 0 where
  pub done : HasCleanDisk (state g new) → IsTrue (state g old).in_transaction → OnOk result (Does old new × IsTrue (state g new).in_transaction)
  pub keeps : HasCleanDisk (state g new) → IsTrue (state g old).in_transaction → KeepsCommit (state g old) (state g new)
  pub quiet : CommitsNothing g old new

-- a rule that looks up this table for every packet was inserted
abbrev pub InsertsRule : {S : Type 0} → Ghosts S → ℕ → ℕ → ℕ → Held S → Held S → Type 0
InsertsRule g id priority table = Ran g insert_rule (rule_row (table_rule id priority table))

abbrev pub InsertsRules : {S : Type 0} → Ghosts S → Held S → Held S → Type 0
InsertsRules g = InTurn (InsertsRule g 1 0 local_table) (InTurn (InsertsRule g 2 32766 main_table) (InsertsRule g 3 32767 default_table))

-- the three opening rules were inserted, and then the count 0
abbrev pub Fills : {S : Type 0} → Ghosts S → Held S → Held S → Type 0
Fills g = InTurn (InsertsRules g) (Ran g insert_meta (meta_row 0))

abbrev pub Takes : {S : Type 0} → Ghosts S → Step → Held S → Held S → Type 0
Takes g (step.Make table) = Ran g (create table) []
Takes g step.Migrate = Ran g migrate []
Takes g step.Fill = Fills g

-- ---- a transaction of its own

-- this was done in a transaction, which left this
abbrev pub HasDone : {S : Type 0} → Ghosts S → (Held S → Held S → Type 0) → Held S → Database → Type 0
HasDone {S = S} g Does old db = (last : Held S) × Does (begun_from old) last × (db ≡ (state g last).now)

-- the trees are those that it left
abbrev pub HasLeft : {S : Type 0} → Ghosts S → (Held S → Held S → Type 0) → Held S → Trees → Type 0
HasLeft g Does old trees = (db : Database) × HasDone g Does old db × (trees ≡ db.trees)

-- this was done and committed, or nothing was changed, except for a commit that failed
pub record Commits {S : Type 0} (g : Ghosts S) (Does : Held S → Held S → Type 0) (old new : Held S) (result : Result (Unit {0}) Refusal) : Type 0 where
  pub ok : HasCleanDisk (state g new) → OnOk result (HasDone g Does old (state g new).committed × IsSettled g new)
  pub err : HasCleanDisk (state g new) → IsTrue (state g new).is_open → OnErr result ((state g new).now ≡ (state g old).now)
  pub crash : Survives (state g old) (state g new) (HasLeft g Does old)

-- the table was made if there was none of its name, and nothing was done if there was
pub record MakesMissing {S : Type 0} (g : Ghosts S) (table : OurTable) (old new : Held S) (result : Result (Unit {0}) Refusal) : Type 0 where
  pub there : has_table (table_of table).name (state g old).now.schema ≡ true → new ≡ old
  pub missing : has_table (table_of table).name (state g old).now.schema ≡ false → Commits g (Takes g (step.Make table)) old new result

-- ---- the opening

-- from tables such as these the opening went on to tables such as those, with all rows
pub record Advances {S : Type 0} (g : Ghosts S) (From To : Schema → Type 0) (old new : Held S) (result : Result (Unit {0}) Refusal) : Type 0 where
  pub ok : HasCleanDisk (state g new) → From (state g old).now.schema →
      OnOk result (To (state g new).now.schema × KeepsTables (state g old).now (state g new).now)
  pub err : HasCleanDisk (state g new) → IsTrue (state g new).is_open → From (state g old).now.schema →
      OnErr result (AdoptsPart (state g old).now (state g new).now)
  pub crash : (HasCleanDisk (state g old) → From (state g old).now.schema) → Survives (state g old) (state g new) (LeavesPart (state g old).now)

-- the table has no rows
abbrev pub IsEmpty : OurTable → Database → Type 0
IsEmpty table db = db.trees (table_of table).tree ≡ []

-- the row of `meta` is that of format 1
abbrev pub NamesFormat1 : Database → Type 0
NamesFormat1 db = (count : ℕ) × IsCount count × (db.trees meta_table.tree ≡ kept_count_1 count ∷ [])

-- the file is of format 1, and is to be migrated
abbrev pub IsDue : Database → Type 0
IsDue db = (count : ℕ) × IsOfFormat1 db count

-- What an opening does to a connection, if the file has no tables or ours first. A crash leaves what it could leave before
-- or what an opening leaves.
pub record OpensTables {S : Type 0} (g : Ghosts S) (old new : Held S) (result : Result (Unit {0}) Refusal) : Type 0 where
  pub ok : HasCleanDisk (state g new) → BeginsFormat2 (state g old).now.schema → OnOk result (Adopts (state g old).now (state g new).now × IsSettled g new)
  pub err : HasCleanDisk (state g new) → IsTrue (state g new).is_open → BeginsFormat2 (state g old).now.schema →
      OnErr result (AdoptsPart (state g old).now (state g new).now)
  pub crash : (HasCleanDisk (state g old) → BeginsFormat2 (state g old).now.schema) → Survives (state g old) (state g new) (LeavesPart (state g old).now)

-- ---- of whatever file

-- the table was there and nothing was done, or it was made in a transaction of its own
pub record MakesTable {S : Type 0} (g : Ghosts S) (table : OurTable) (old new : Held S) : Type 0 where
  pub there : has_table (table_of table).name (state g old).now.schema ≡ true → new ≡ old
  pub missing : has_table (table_of table).name (state g old).now.schema ≡ false →
      HasDone g (Takes g (step.Make table)) old (state g new).committed × IsSettled g new

abbrev pub MakesTables : {S : Type 0} → Ghosts S → Held S → Held S → Type 0
MakesTables g = InTurn (MakesTable g ours.Rule) (InTurn (MakesTable g ours.Route) (InTurn (MakesTable g ours.Meta) (MakesTable g ours.Suppress)))

-- Nothing was changed. `Yes` holds if the answer was true, `No` if it was false. After a refusal the tables show what they
-- showed, if the connection is still open and nothing was pending.
pub record Finds {S : Type 0} (g : Ghosts S) (Yes No : Type 0) (old new : Held S) (result : Result Bool Refusal) : Type 0 where
  pub ok : HasCleanDisk (state g new) → IfOk result (λ found. IsUnchanged (state g old) (state g new) × MatchBool found Yes No)
  pub err : HasCleanDisk (state g new) → IsTrue (state g new).is_open →
      (IsTrue (state g old).is_open → (state g old).now ≡ (state g old).committed) → OnErr result ((state g new).now ≡ (state g old).now)
  pub quiet : CommitsNothing g old new

-- each statement that looks showed no row, and the opening state was put into the tables, in one transaction
pub record FillsEmpty {S : Type 0} (g : Ghosts S) (old new : Held S) : Type 0 where
  pub empty : (table : OurTable) → ShowsNoRow g old table
  pub seen : Held S
  pub same : IsUnchanged (state g old) (state g seen)
  pub filled : HasDone g (Fills g) seen (state g new).committed
  pub settled : IsSettled g new

-- the file was found to be of format 1 without lengths, and its format was set, in one transaction
pub record MigratesFound {S : Type 0} (g : Ghosts S) (old new : Held S) : Type 0 where
  pub found : ShowsDue g old
  pub seen : Held S
  pub same : IsUnchanged (state g old) (state g seen)
  pub set : HasDone g (Ran g migrate []) seen (state g new).committed
  pub settled : IsSettled g new

-- the file was not due, and nothing was changed; or it was due, and its format was set
abbrev pub KeepsOrMigrates : {S : Type 0} → Ghosts S → Held S → Held S → Type 0
KeepsOrMigrates g old new = (ShowsNotDue g old × IsUnchanged (state g old) (state g new)) ⊎ MigratesFound g old new

-- Some table was shown to have a row, and nothing was changed but the format of a file of format 1. Or none was, and they were filled.
abbrev pub KeepsOrFills : {S : Type 0} → Ghosts S → Held S → Held S → Type 0
KeepsOrFills g old new = (ShowsContents g old × KeepsOrMigrates g old new) ⊎ FillsEmpty g old new

-- the missing tables were made, and then they were filled, migrated or kept, as their rows showed
abbrev pub MakesAndFills : {S : Type 0} → Ghosts S → Held S → Held S → Type 0
MakesAndFills g = InTurn (MakesTables g) (KeepsOrFills g)
