-- What a desk over a publisher stands for.
use Rattle.std.specs.Prelude.{◌≡◌, ◌⊎◌, ℕ, Bool, true, false, List, [], ◌∷◌, Result, Ok, Err, ⊤}
use Rattle.sqlite.specs.Effect.{Database, IsDatabase}
use Rattle.sqlite.specs.Held.{Held, state}
use Rattle.sqlite.specs.Store.{Ghosts}
use Rattle.prt_refusals.specs.declared.refusal.Refusal.{Refusal}
use Rattle.prt_refusals.specs.declared.refusal.Refusal.TheVariants.{NotPublished, StoreFailed}
use Rattle.prt_refusals.specs.declared.refusal.StoreCall.TheVariants.{Commit}
use Rattle.prt_command.specs.declared.request.Command.{Command}
use Rattle.prt_published.specs.Line.{line_state}
use Rattle.prt_publisher.specs.Standing.{IsQuiet, Standing, Stands}
use Rattle.prt_publisher.specs.declared.phase.Phase.{Phase}
use Rattle.prt_publisher.specs.declared.phase.Phase.TheVariants.{Ready, Closed}
use Rattle.prt_session.specs.Desk.{DeskState, Mishap, settled, shut}
use Rattle.prt_store.specs.Exits.{IsKnown, MayLeave, Opens}
use Rattle.prt_version.specs.Change.{fold}
use Rattle.prt_version.specs.State.{State}

-- the state that queries are answered from
abbrev pub published : {T : Type 0} → Standing T → State
published desk = line_state desk.line

abbrev pub is_closed_at : Phase → Bool
is_closed_at Closed = true
is_closed_at phase = false

-- no command is accepted any more
abbrev pub is_shut : {T : Type 0} → Standing T → Bool
is_shut desk = is_closed_at desk.phase

-- No command is under way. Of a known file: while a desk is open, its state is stored; once it is closed, whatever a crash
-- leaves encodes that state or the one after one submission more, always the same submission.
abbrev pub IsKept : {S : Type 0} → Ghosts S → Standing (Held S) → Type 0
IsKept g desk = IsQuiet desk.phase × Stands g desk

-- what may be stored after a failed commit: the state that is published, or one that a crash may leave
abbrev pub IsPerhapsStored : {S : Type 0} → Ghosts S → Bool → Held S → State → State → Type 0
IsPerhapsStored g ours_first tables published stored = (stored ≡ published) ⊎ (IsKnown g ours_first tables × MayLeave g tables stored)

-- after a refused publication the state after its commands is stored
abbrev pub StandsBy : {S : Type 0} → Ghosts S → Bool → Held S → State → Phase → List Command → DeskState → Type 0
StandsBy g ours_first tables published Ready commands desk = desk ≡ settled published
StandsBy g ours_first tables published Closed [] desk =
    (desk.published ≡ published) × (desk.closed ≡ true) × IsPerhapsStored g ours_first tables published desk.stored
StandsBy g ours_first tables published Closed (command ∷ commands) desk = desk ≡ shut (settled published) (fold published (command ∷ commands))
StandsBy g ours_first tables published phase commands desk = ⊥

-- what a desk stands for: while it is open, its state, published and stored; once it is closed, that state is published, and stored is what may be
abbrev pub StandsFor : {S : Type 0} → Ghosts S → Standing (Held S) → DeskState → Type 0
StandsFor g desk = StandsBy g desk.ours_first desk.tables (published desk) desk.phase desk.commands

abbrev pub desk_with : {T : Type 0} → Standing T → State → DeskState
desk_with desk stored = record { published = published desk; stored = stored; closed = is_shut desk }

-- the desk may stand for this stored state
abbrev pub MayBeStored : {S : Type 0} → Ghosts S → Standing (Held S) → State → Type 0
MayBeStored g desk stored = StandsFor g desk (desk_with desk stored)

-- The file is known, and this is the state that an opening makes of a file which a crash may leave now.
pub record LeavesFound {S : Type 0} (g : Ghosts S) (desk : Standing (Held S)) (found : State) : Type 0 where
  pub known : IsKnown g desk.ours_first desk.tables
  pub file : Database
  pub sound : IsDatabase file
  pub left : (state g desk.tables).may_leave file.trees
  pub opens : Opens file found

-- what may befall it: memory, room for old versions, a store call and the publication may fail
abbrev pub IsStoreMishap : Mishap → Type 0
IsStoreMishap mishap = ⊤

-- what a crash leaves once commands have this result: the state after them if they were acknowledged, or only their
-- publication was refused; else the state before them or, only if the call that commits failed, the state after them
abbrev pub LeavesEither : Result ℕ Refusal → State → State → State → Type 0
LeavesEither (Ok number) before after left = left ≡ after
LeavesEither (Err NotPublished) before after left = left ≡ after
LeavesEither (Err reason) before after left = (left ≡ before) ⊎ ((reason ≡ StoreFailed Commit) × (left ≡ after))
