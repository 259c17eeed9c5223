-- What is read of the tables.
use Rattle.std.specs.Prelude.{◌≡◌, IsTrue, Result, IfErr, IfOk, OnErr, OnOk}
use Rattle.sqlite.specs.Held.{Held, state}
use Rattle.sqlite.specs.State.{HasCleanDisk, IsUnchanged, Survives}
use Rattle.sqlite.specs.Store.{Ghosts}
use Rattle.prt_refusals.specs.Opening.{IsOpenRefusal}
use Rattle.prt_refusals.specs.declared.refusal.Refusal.{Refusal}
use Rattle.prt_refusals.specs.declared.refusal.Refusal.TheVariants.{Damaged}
use Rattle.prt_store.specs.Adopted.{IsSettled}

-- nothing is pending still, and the tables show what they showed
abbrev pub StaysSettled : {S : Type 0} → Ghosts S → Held S → Held S → Type 0
StaysSettled g old new = IsSettled g new × ((state g new).now ≡ (state g old).now)

-- Whatever the file, nothing is changed after `Ok`, and a crash leaves what it could leave before. After a refusal nothing is
-- changed either, if the connection is still open and nothing was pending.
pub record ReadsOnly {S X : Type 0} (g : Ghosts S) (old new : Held S) (result : Result X Refusal) : Type 0 where
  pub reason : IfErr result IsOpenRefusal
  pub same : HasCleanDisk (state g new) → OnOk result (IsUnchanged (state g old) (state g new))
  pub err : HasCleanDisk (state g new) → IsTrue (state g new).is_open → IsSettled g old → OnErr result (StaysSettled g old new)
  pub quiet : Survives (state g old) (state g new) (λ _. ⊥)

-- What was read was shown so, and `Damaged` comes only if what was shown is damaged. Nothing is changed.
pub record ReadsShown {S X : Type 0} (g : Ghosts S) (Shows : X → Type 0) (Damage : Type 0) (old new : Held S) (result : Result X Refusal) : Type 0 where
  pub shown : HasCleanDisk (state g new) → IfOk result Shows
  pub damage : HasCleanDisk (state g new) → IfErr result (λ reason. reason ≡ Damaged → IsTrue (state g old).is_open × Damage)
  pub only : ReadsOnly g old new result
