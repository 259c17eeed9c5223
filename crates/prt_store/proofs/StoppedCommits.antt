-- What a crash finds if a stop falls into a store call of a commit: the state before its changes or, in the commit call
-- alone, the one after all of them.
use Rattle.std.proofs.Common.{◌≡◌, ◌⊎◌, inl, inr, ℕ, Bool, List, sym, subst, arith}
use Rattle.sqlite.specs.Held.{Held, state}
use Rattle.sqlite.specs.State.{HasCleanDisk}
use Rattle.sqlite.specs.Store.{Ghosts}
use Rattle.sqlite.specs.Tree.{Trees}
use Rattle.prt_refusals.specs.declared.refusal.StoreCall.{StoreCall}
use Rattle.prt_refusals.specs.declared.refusal.StoreCall.TheVariants.{Commit}
use Rattle.prt_store.proofs.Exits.{next_spelled}
use Rattle.prt_store.proofs.Several.{makes_all_next}
use Rattle.prt_store.proofs.Spelled.{spelled_once}
use Rattle.prt_store.proofs.Stops.{left_by}
use Rattle.prt_store.specs.Exits.{IsKnown, IsStored, MayLeave, Spells}
use Rattle.prt_store.specs.Next.{AreNext, put_all}
use Rattle.prt_store.specs.Stops.{AllStoppedIn}
use Rattle.prt_version.specs.State.{State}
use Rattle.prt_version.specs.declared.change.Change.{Change}

module _ {S : Type 0} (g : Ghosts S) (published : State) (ours_first : Bool) (tables now : Held S) (changes : List Change) (number : ℕ) (call : StoreCall) (kept : IsKnown g ours_first tables → IsStored g tables published)
    (next : AreNext published changes number) (stops : AllStoppedIn g changes number tables call now) (known : IsKnown g ours_first now) where
  pub stopped_leaves : (left : State) → MayLeave g now left → (left ≡ published) ⊎ ((call ≡ Commit) × (left ≡ put_all published changes))
  stopped_leaves left may =
      let after = put_all published changes in
      let survives = left_by g changes number tables now call stops in
      let before : HasCleanDisk (state g tables) = omega (arith, survives.clean, known.1) in
      let stored : IsStored g tables published = kept (known.0, before) in
      elim (survives.crash known.1 may.0 may.1) [
        | inl was ↦ inl (spelled_once may.0 left published may.2 (stored.durable may.0 was))
        | inr it ↦
            let done = it.2 in
            let all = makes_all_next g changes number tables done.0 published next it.1 stored.now done.1 in
            let spells : Spells may.0 after = subst (λ (t : Trees). Spells t after) (sym done.2) (next_spelled (state g tables).now after done.0.schema done.0.trees all) in
            inr (it.0, spelled_once may.0 left after may.2 spells)
      ]
