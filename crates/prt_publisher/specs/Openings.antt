-- What an opening makes of a database, and what it leaves if it is refused.
use Rattle.std.specs.Prelude.{◌≡◌, ◌↔◌, [], true, IsTrue}
use Rattle.sqlite.specs.Held.{Held, state}
use Rattle.sqlite.specs.State.{HasCleanDisk, IsUnchanged, Survives}
use Rattle.sqlite.specs.Store.{Ghosts}
use Rattle.prt_refusals.specs.Opening.{IsOpenRefusal}
use Rattle.prt_refusals.specs.declared.refusal.Refusal.{Refusal}
use Rattle.prt_refusals.specs.declared.refusal.Refusal.TheVariants.{Damaged}
use Rattle.prt_published.specs.Line.{line_state}
use Rattle.prt_publisher.specs.Standing.{Standing}
use Rattle.prt_rows.specs.Format.{BeginsFormat2, SuitsFormat2}
use Rattle.prt_store.specs.Adopted.{Adopts, AdoptsPart, LeavesPart}
use Rattle.prt_store.specs.Exits.{HasState, IsStored, Spells}
use Rattle.prt_store.specs.Openings.{MakesAndFills}
use Rattle.prt_store.specs.Shown.{ShowsState}
use Rattle.prt_version.specs.Sound.{IsSound}
use Rattle.prt_version.specs.State.{State}

-- a crash leaves what it could leave before, or what a stopped opening leaves
abbrev pub Lasts : {S : Type 0} → Ghosts S → Held S → Held S → Type 0
Lasts g was left = (HasCleanDisk (state g was) → BeginsFormat2 (state g was).now.schema) → Survives (state g was) (state g left) (LeavesPart (state g was).now)

-- The tables were adopted, and this state is stored in them; tables that encoded a state encoded this one. Of whatever
-- file, none of ours had other columns. They were only made if they were missing, filled if none of the four showed a row,
-- or migrated if they showed format 1 and no lengths; and the statements that read them show the state.
pub record HasOpened {S : Type 0} (g : Ghosts S) (was made : Held S) (opened : State) : Type 0 where
  pub sound : IsSound opened
  pub suits : (SuitsFormat2 (state g was).now.schema → ⊥) → ⊥
  pub does : HasCleanDisk (state g made) → (adopted : Held S) × MakesAndFills g was adopted × IsUnchanged (state g adopted) (state g made)
  pub shown : HasCleanDisk (state g made) → ShowsState g made opened
  pub adopts : HasCleanDisk (state g made) → BeginsFormat2 (state g was).now.schema → Adopts (state g was).now (state g made).now × IsStored g made opened
  pub found : HasCleanDisk (state g made) → IsTrue (state g was).is_open → (stored : State) → Spells (state g was).now.trees stored →
      BeginsFormat2 (state g was).now.schema × (opened ≡ stored)
  pub lasts : Lasts g was made

-- Nothing was opened. `Damaged` comes only if the file had no state, of which only files that are new, of format 1 alone,
-- or have our tables first are known to have one. Their tables are at most adopted in part. If one of ours had other
-- columns, the connection is as it was.
pub record HasRefused {S : Type 0} (g : Ghosts S) (was left : Held S) (reason : Refusal) : Type 0 where
  pub why : IsOpenRefusal reason
  pub damaged : reason ≡ Damaged → HasCleanDisk (state g left) → IsTrue (state g was).is_open → (stored : State) → HasState (state g was).now stored → ⊥
  pub other_columns : (SuitsFormat2 (state g was).now.schema → ⊥) → left ≡ was
  pub part : HasCleanDisk (state g left) → IsTrue (state g left).is_open → BeginsFormat2 (state g was).now.schema →
      AdoptsPart (state g was).now (state g left).now
  pub lasts : Lasts g was left

-- a connection that was found so was opened, which made it the tables of this publisher, which has accepted no command yet
pub record OpensOne {S : Type 0} (g : Ghosts S) (IsFound : Held S → Type 0) (made : Standing (Held S)) : Type 0 where
  pub was : Held S
  pub found : IsFound was
  pub format : (made.ours_first ≡ true) ↔ BeginsFormat2 (state g was).now.schema
  pub opened : HasOpened g was made.tables (line_state made.line)
  pub begun : (made.commands ≡ []) × (made.line.list ≡ [])

-- a connection that was found so was not opened, for this reason, and was left as this one
pub record RefusesToOpen {S : Type 0} (g : Ghosts S) (IsFound : Held S → Type 0) (reason : Refusal) (left : Held S) : Type 0 where
  pub was : Held S
  pub found : IsFound was
  pub refused : HasRefused g was left reason
