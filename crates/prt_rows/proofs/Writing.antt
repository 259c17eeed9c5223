-- What a statement that writes the rows of one table does, as far as it is the same for each.
use Rattle.std.proofs.Common.{◌≡◌, ◌≢◌, ◌⊎◌, inl, inr, ℕ, List, Option, Some, None, Ok, Err, Result, sym, ap, subst, ◌∙◌}
use Rattle.std.specs.List.{AllByRecursion}
use Rattle.std.specs.Prelude.{slice_get}
use Rattle.sqlite.proofs.Callers.{runs_as, statement_of}
use Rattle.sqlite.specs.Command.{Command}
use Rattle.sqlite.specs.Does.{AtPlace, Does, OnRows, OnTable, Tally, WritesRows}
use Rattle.sqlite.specs.Effect.{Database}
use Rattle.sqlite.specs.Listing.{understood}
use Rattle.sqlite.specs.Rows.{Task, Written}
use Rattle.sqlite.specs.Schema.{Schema}
use Rattle.sqlite.specs.State.{Executes, Runs, State, Writes, mode_of}
use Rattle.sqlite.specs.Table.{Table}
use Rattle.sqlite.specs.Tree.{Trees}
use Rattle.sqlite.specs.declared.run.Mode.{Mode}
use Rattle.sqlite_rules.proofs.ListLemmas.{all_has}
use Rattle.sqlite_rules.specs.Lists.{Has}
use Rattle.sqlite_value.specs.Order.{Row}
use Rattle.prt_rows.proofs.Texts.{Means}
use Rattle.prt_rows.specs.Effects.{ChangesOnly}

-- a part that returned a value did not stop on the way
pub went : {B E R : Type 0} {b : B} {Stops : E → Type 0} → ((stop : E) × Stops stop × (Ok b ≡ Err stop)) ⊎ R → R
went (inl stopped) = absurd (let e = stopped.2 in cc)
went (inr on) = on

pub same_value : {B E : Type 0} {a b : B} → ◌≡◌ {A = Result B E} (Ok a) (Ok b) → a ≡ b
same_value e = cc

-- what the statement is about
abbrev pub task_at : Schema → Table → State → Row → Task
task_at schema table old params = record { limit = old.step_limit; keys = (mode_of old).keys; schema = schema; table = table; params = params }

-- a command that writes the rows of the table at a place, as the last two premises say of it
module _ (schema : Schema) (place : ℕ) (table : Table) (there : slice_get schema.tables place ≡ Some table) (sql : List ℕ) (command : Command) (means : Means schema sql command)
    (writes : (old new : State) (text : List ℕ) (params : Row) (count : ℕ) → Runs old new None command text params count → Writes old new None command text params count)
    (on_rows : (limit : Option ℕ) (mode : Mode) (params : Row) (db : Database) (text : List ℕ) (tally : Tally) (after : Database) → Does limit mode params db text None command (Ok (tally, after))
    → OnTable limit mode params db place (λ task. OnRows task mode None command db.trees) (Ok (tally, after))) where
  abbrev Works : State → State → Row → Tally → Option Table → Type 0
  Works old new params tally found = AtPlace (λ t. OnRows (task_at schema t old params) (mode_of old) None command old.now.trees) found (Ok (tally, new.now))

  -- the rows are written, and the schema stays
  pub wrote : (old new : State) (params : Row) (count : ℕ) → old.now.schema ≡ schema → Executes sql params old new (Ok count)
      → (w : Written) × WritesRows (task_at schema table old params) old.now.trees command (Ok w) × (new.now ≡ record { schema = schema; trees = w.trees })
  wrote old new params count has ran =
      let text = statement_of sql (understood schema sql) in
      let w = writes old new text params count (runs_as sql params old new schema has command means.0 means.1 count ran) in
      let does = subst (λ s. Does old.step_limit (mode_of old) params (record old.now { schema = s }) text None command (Ok (w.tally, new.now))) has w.changed in
      let works = on_rows old.step_limit (mode_of old) params (record old.now { schema = schema }) text w.tally new.now does in
      let done = went (subst (λ found. Works old new params w.tally found) there works) in
      (done.0, done.1, ap (λ (p : Tally × Database). p.1) (same_value (went (went done.2).2).2))

-- the other tables of the schema keep their rows
pub changes_only : (schema : Schema) (table : Table) (old new : Database) (trees : Trees) → old.schema ≡ schema → new ≡ record { schema = schema; trees = trees }
    → AllByRecursion (λ (other : Table). other.tree ≢ table.tree → trees other.tree ≡ old.trees other.tree) schema.tables → ChangesOnly table old new
changes_only schema table old new trees has now others = record {
  schema = ap (λ (d : Database). d.schema) now ∙ sym has;
  others = λ other among apart. ap (λ (d : Database). d.trees other.tree) now ∙ all_has _ schema.tables other others (subst (λ (s : Schema). Has s.tables other) has among) apart;
}
