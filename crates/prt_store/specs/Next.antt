-- What may be committed after a state, and what it makes of a database.
use Rattle.std.specs.Prelude.{◌≡◌, ℕ, ◌+◌, List, [], ◌∷◌, length, Ok}
use Rattle.sqlite.specs.Effect.{Database, IsDatabase}
use Rattle.sqlite.specs.Table.{Table}
use Rattle.sqlite_rules.specs.Lists.{Has}
use Rattle.prt_command.specs.Storable.{IsStorable}
use Rattle.prt_command.specs.declared.request.Command.{Command}
use Rattle.prt_rows.specs.Tables.{our_tables}
use Rattle.prt_version.specs.Change.{check, put}
use Rattle.prt_version.specs.Sound.{IsSound}
use Rattle.prt_version.specs.State.{State}
use Rattle.prt_version.specs.declared.change.Change.{Change}
use Rattle.prt_store.specs.Stored.{Stores}

-- the change is the one that a storable command makes of the state, and the number is the state's next one
pub record IsNext (state : State) (change : Change) (number : ℕ) : Type 0 where
  pub sound : IsSound state
  pub command : Command
  pub storable : IsStorable command
  pub makes : check state command ≡ Ok change
  pub counts : number ≡ state.count + 1

-- The tables encode the next state, and the rest is as it was: the tables of the schema, and the rows of each table that is
-- not ours.
pub record MakesNext (old : Database) (next : State) (new : Database) : Type 0 where
  pub sound : IsDatabase new
  pub stores : Stores new next
  pub schema : new.schema ≡ old.schema
  pub others : (table : Table) → Has old.schema.tables table → (Has our_tables table → ⊥) → new.trees table.tree ≡ old.trees table.tree

-- ---- several changes

-- the state after these changes, one after the other
abbrev pub put_all : State → List Change → State
put_all state [] = state
put_all state (made ∷ more) = put_all (put state made) more

-- each change is the one that a storable command makes of the state after those before it
abbrev pub AreMade : State → List Change → Type 0
AreMade state [] = Unit {0}
AreMade state (made ∷ more) = ((command : Command) × IsStorable command × (check state command ≡ Ok made)) × AreMade (put state made) more

-- the changes are those that storable commands make, one after the other, and the number is that of the last one
pub record AreNext (state : State) (changes : List Change) (number : ℕ) : Type 0 where
  pub sound : IsSound state
  pub made : AreMade state changes
  pub counts : number ≡ state.count + length changes
