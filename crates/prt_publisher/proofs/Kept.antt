-- What a crash leaves of a desk over a publisher, and what an opening of it yields.
use Rattle.std.proofs.Common.{◌≡◌, inr, Bool, true, false, List, [], ◌∷◌, refl, sym, ap, subst}
use Rattle.sqlite.specs.Held.{Held, state}
use Rattle.sqlite.specs.Store.{Ghosts}
use Rattle.sqlite.specs.Tree.{Trees}
use Rattle.prt_command.specs.declared.request.Command.{Command}
use Rattle.prt_publisher.specs.Standing.{Agrees, IsQuiet, Standing}
use Rattle.prt_publisher.specs.declared.phase.Phase.{Phase}
use Rattle.prt_publisher.specs.declared.phase.Phase.TheVariants.{Ready, Closed}
use Rattle.prt_session.specs.Desk.{DeskState}
use Rattle.prt_store.proofs.Exits.{found_is}
use Rattle.prt_store.proofs.Spelled.{spelled_once}
use Rattle.prt_store.specs.Exits.{IsKnown, IsStored, MayLeave, Spells}
use Rattle.prt_version.specs.Change.{fold}
use Rattle.prt_version.specs.State.{State}
use Rattle.prt_publisher.specs.StoreDesk.{IsKept, LeavesFound, MayBeStored, StandsBy, StandsFor, desk_with, is_closed_at, is_shut, published}

abbrev with_stored : State → Phase → State → DeskState
with_stored state phase stored = record { published = state; stored = stored; closed = is_closed_at phase }

module _ {S : Type 0} (g : Ghosts S) (ours_first : Bool) (tables : Held S) (shown : State) where
  published_by : (phase : Phase) (under : List Command) (desk : DeskState) → StandsBy g ours_first tables shown phase under desk → desk.published ≡ shown
  published_by Ready under desk is = ap (λ (d : DeskState). d.published) is
  published_by Closed [] desk is = is.0
  published_by Closed (command ∷ commands) desk is = ap (λ (d : DeskState). d.published) is
  published_by phase under desk is = absurd is

  durable_by : (phase : Phase) (under : List Command) → IsQuiet phase → IsKnown g ours_first tables → Agrees g phase under shown tables → (trees : Trees) → (state g tables).may_leave trees
      → (stored : State) × Spells trees stored × StandsBy g ours_first tables shown phase under (with_stored shown phase stored)
  durable_by Ready under quiet known kept trees may = (shown, kept.durable trees may, refl)
  durable_by Closed [] quiet known kept trees may = let left = kept.durable trees may in (left.0, left.1, (refl, refl, inr (known, (trees, may, left.1))))
  durable_by Closed (command ∷ commands) quiet known kept trees may = (fold shown (command ∷ commands), kept.durable trees may, refl)
  durable_by phase under quiet known kept trees may = absurd quiet

module _ {S : Type 0} (g : Ghosts S) (desk : Standing (Held S)) where
  -- what it stands for is published
  pub shows : (stood : DeskState) → StandsFor g desk stood → stood.published ≡ published desk
  shows stood stands = published_by g desk.ours_first desk.tables (published desk) desk.phase desk.commands stood stands

  -- whatever a crash leaves encodes a state that may be stored
  pub durable_is : IsKept g desk → IsKnown g desk.ours_first desk.tables → (trees : Trees) → (state g desk.tables).may_leave trees → (stored : State) × Spells trees stored × MayBeStored g desk stored
  durable_is kept known = durable_by g desk.ours_first desk.tables (published desk) desk.phase desk.commands kept.0 known (kept.1 known)

  -- and what an opening makes of it is that state
  pub found_is_stored : IsKept g desk → (found : State) → LeavesFound g desk found → (after : DeskState) × StandsFor g desk after × (after.stored ≡ found)
  found_is_stored kept found leaves =
      let left = durable_is kept leaves.known leaves.file.trees leaves.left in
      (desk_with desk found, subst (MayBeStored g desk) (sym (found_is leaves.file found left.0 leaves.opens leaves.sound left.1)) left.2, refl)

-- ---- of an open desk

-- no command is under way, and it is open
pub ready_by : (phase : Phase) → IsQuiet phase → is_closed_at phase ≡ false → phase ≡ Ready
ready_by Ready quiet is = refl
ready_by Closed quiet is = absurd (let both : true ≡ false = is in cc)
ready_by phase quiet is = absurd quiet

module _ {S : Type 0} (g : Ghosts S) (desk : Standing (Held S)) (kept : IsKept g desk) (is : is_shut desk ≡ false) (known : IsKnown g desk.ours_first desk.tables) where
  -- its state is stored
  pub stored_open : IsStored g desk.tables (published desk)
  stored_open = subst (λ (p : Phase). Agrees g p desk.commands (published desk) desk.tables) (ready_by desk.phase kept.0 is) (kept.1 known)

  -- and a crash leaves that alone
  pub left_open : (left : State) → MayLeave g desk.tables left → left ≡ published desk
  left_open left may = spelled_once may.0 left (published desk) may.2 (stored_open.durable may.0 may.1)
