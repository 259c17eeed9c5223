-- What the exits of an opening, a load and a commit say together.
use Rattle.std.proofs.Common.{◌≡◌, ◌⊎◌, inl, inr, ℕ, Bool, List, sym, subst}
use Rattle.sqlite.specs.Effect.{Database, IsDatabase}
use Rattle.sqlite.specs.Held.{Held, state}
use Rattle.sqlite.specs.State.{HasCleanDisk, IsUnchanged, Survives}
use Rattle.sqlite.specs.Store.{Ghosts}
use Rattle.sqlite.specs.Schema.{Schema}
use Rattle.sqlite.specs.Tree.{Trees}
use Rattle.prt_refusals.specs.declared.refusal.Refusal.{Refusal}
use Rattle.prt_refusals.specs.declared.refusal.Refusal.TheVariants.{StoreFailed}
use Rattle.prt_refusals.specs.declared.refusal.StoreCall.TheVariants.{Commit}
use Rattle.prt_version.specs.State.{State}
use Rattle.prt_version.specs.declared.change.Change.{Change}
use Rattle.prt_store.proofs.Adoptions.{stored_still}
use Rattle.prt_store.proofs.Spelled.{database, spelled_once, stored_once, stored_there}
use Rattle.prt_store.specs.Exits.{IsKnown, IsStored, MayLeave, Opens, SparesOthers, Spells}
use Rattle.prt_store.specs.Next.{AreNext, MakesNext, put_all}
use Rattle.prt_store.specs.Stored.{Stores}

-- ---- adopted, and then loaded

-- what was loaded of tables that were adopted is stored in them
pub is_stored : {S : Type 0} (g : Ghosts S) (adopted loaded : Held S) (version : State) → Stores (state g adopted).now version → IsUnchanged (state g adopted) (state g loaded) → IsDatabase (state g loaded).now → Survives (state g adopted) (state g loaded) (λ _. ⊥)
    → ((trees : Trees) → (state g adopted).may_leave trees → trees ≡ (state g adopted).now.trees) → HasCleanDisk (state g loaded) → IsStored g loaded version
is_stored g adopted loaded version held same sound quiet leaves clean =
    let unchanged : (state g loaded).now ≡ (state g adopted).now = same.0.now_is in
    record {
      now = subst (λ (db : Database). Stores db version) (sym unchanged) held;
      durable = λ trees may. elim (quiet.crash clean trees may) [
        | inl was ↦ subst (λ (t : Trees). Spells t version) (sym (leaves trees was)) (record { schema = (state g adopted).now.schema; sound = subst IsDatabase unchanged sound; stores = held })
        | inr none ↦ absurd none
      ];
    }

-- an opening changes no tables that encode a state
pub found_is : (found : Database) (version stored : State) → Opens found version → IsDatabase found → Spells found.trees stored → version ≡ stored
found_is found version stored opens sound spells =
    let db = opens.0 in
    stored_once db.schema db.schema db.trees version stored opens.2 (stored_still found db stored opens.1 (stored_there found stored sound spells))

-- ---- a commit

pub next_spelled : (old : Database) (next : State) (schema : Schema) (trees : Trees) → MakesNext old next (database schema trees) → Spells trees next
next_spelled old next schema trees makes = record { schema = schema; sound = makes.sound; stores = makes.stores }

module _ {S : Type 0} (g : Ghosts S) (old new : Held S) (next : State) where
  -- the next state is stored
  pub stored_next : MakesNext (state g old).now next (state g new).now → ((trees : Trees) → (state g new).may_leave trees → trees ≡ (state g new).now.trees) → IsStored g new next
  stored_next made leaves = record {
    now = made.stores;
    durable = λ trees left. subst (λ (t : Trees). Spells t next) (sym (leaves trees left)) (next_spelled (state g old).now next (state g new).now.schema (state g new).now.trees made);
  }

  -- a crash leaves the state before or, only if the commit call failed, the next one
  pub left_either : (before : State) (reason : Refusal) → IsStored g old before
      → ((trees : Trees) → (state g new).may_leave trees → (state g old).may_leave trees ⊎ ((reason ≡ StoreFailed Commit) × MakesNext (state g old).now next (database (state g old).now.schema trees)))
      → (left : State) → MayLeave g new left → (left ≡ before) ⊎ ((reason ≡ StoreFailed Commit) × (left ≡ next))
  left_either before reason stored leaves left may =
      let trees = may.0 in
      elim (leaves trees may.1) [
        | inl was ↦ inl (spelled_once trees left before may.2 (stored.durable trees was))
        | inr more ↦ inr (more.0, spelled_once trees left next may.2 (next_spelled (state g old).now next (state g old).now.schema trees more.1))
      ]

module _ {S : Type 0} (g : Ghosts S) (ours_first : Bool) (old new : Held S) (published : State) (changes : List Change) (number : ℕ) (next : AreNext published changes number)
    (clean : HasCleanDisk (state g new) → HasCleanDisk (state g old)) (kept : IsKnown g ours_first old → IsStored g old published) where
  held : IsKnown g ours_first new → IsStored g old published
  held known = kept (known.0, clean known.1)

  -- and the other tables stay
  pub spares_after : (HasCleanDisk (state g new) → (before : State) → AreNext before changes number → Stores (state g old).now before → MakesNext (state g old).now (put_all before changes) (state g new).now)
      → IsKnown g ours_first new → SparesOthers (state g old).now (state g new).now
  spares_after makes known = let after = makes known.1 published next (held known).now in record { schema = after.schema; rows = after.others }

  module _ (reason : Refusal)
      (leaves : HasCleanDisk (state g new) → (before : State) → AreNext before changes number → Stores (state g old).now before → (trees : Trees) → (state g new).may_leave trees
      → (state g old).may_leave trees ⊎ ((reason ≡ StoreFailed Commit) × MakesNext (state g old).now (put_all before changes) (database (state g old).now.schema trees))) where
    -- whatever a crash leaves encodes the state before or after
    pub keeps_after : IsKnown g ours_first new → (trees : Trees) → (state g new).may_leave trees → (left : State) × Spells trees left
    keeps_after known trees may = elim (leaves known.1 published next (held known).now trees may) [
      | inl was ↦ (published, (held known).durable trees was)
      | inr more ↦ (put_all published changes, next_spelled (state g old).now (put_all published changes) (state g old).now.schema trees more.1)
    ]
