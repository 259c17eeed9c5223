-- What a stop leaves that falls into the commit of commands.
use Rattle.std.proofs.Common.{◌≡◌, ◌⊎◌, ◌+◌, length, refl, subst}
use Rattle.sqlite.specs.Store.{Ghosts}
use Rattle.prt_refusals.specs.declared.refusal.StoreCall.TheVariants.{Commit}
use Rattle.prt_store.proofs.Accepted.{are_made, are_next}
use Rattle.prt_store.proofs.StoppedCommits.{stopped_leaves}
use Rattle.prt_store.specs.Exits.{IsStored}
use Rattle.prt_store.specs.Next.{AreNext}
use Rattle.prt_version.specs.Accepted.{changes_of}
use Rattle.prt_version.specs.State.{State}
use Rattle.prt_publisher.proofs.Kept.{left_open, stored_open}
use Rattle.prt_publisher.specs.StoreDesk.{published}
use Rattle.prt_publisher.specs.Stops.{LeavesAState}

-- a stop leaves the state before the commands or the one after all of them
pub leaves_a_state : {S : Type 0} (g : Ghosts S) → LeavesAState g
leaves_a_state g desk kept is known left = (
  left_open g desk kept is known left,
  λ commands call now storable stops known_then may.
      let before = published desk in
      let changes = changes_of before commands in
      let number = before.count + length commands in
      let stored : IsStored g desk.tables before = stored_open g desk kept is known in
      let made = are_made before commands storable stops.0 in
      let next : AreNext before changes number = are_next before commands number stored.now.fits.sound storable stops.0 refl in
      subst (λ (after : State). (left ≡ before) ⊎ ((call ≡ Commit) × (left ≡ after))) made.1
      (stopped_leaves g before desk.ours_first desk.tables now changes number call (λ known. stored_open g desk kept is known) next stops.1 known_then left may),
)
