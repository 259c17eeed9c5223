-- What a crash leaves of a desk once commands are answered.
use Rattle.std.proofs.Common.{◌≡◌, ◌⊎◌, inl, inr, ◌≤◌, Bool, true, false, List, [], length, Err, refl, sym, ap, subst, ◌∙◌}
use Rattle.sqlite.specs.Held.{Held}
use Rattle.sqlite.specs.Store.{Ghosts}
use Rattle.prt_refusals.specs.declared.refusal.Refusal.{Refusal}
use Rattle.prt_refusals.specs.declared.refusal.Refusal.TheVariants.{CountFull, Exists, Full, NoSuch, NotPublished, StoreFailed}
use Rattle.prt_refusals.specs.declared.refusal.StoreCall.TheVariants.{Commit}
use Rattle.prt_command.specs.declared.request.Command.{Command}
use Rattle.prt_published.specs.Line.{grown_by, line_state}
use Rattle.prt_version.proofs.Refused.{IsOfState, all_refused_by}
use Rattle.prt_publisher.proofs.Commits.{closed_stored}
use Rattle.prt_publisher.specs.Exits.{AreNotAcknowledged, AreNotPrepared, AreNotPublished, AreNotStored}
use Rattle.prt_publisher.specs.Standing.{Agrees, IsQuiet, Standing, Stands}
use Rattle.prt_publisher.specs.declared.phase.Phase.{Phase}
use Rattle.prt_publisher.specs.declared.phase.Phase.TheVariants as phases
use Rattle.prt_store.proofs.Spelled.{spelled_once}
use Rattle.prt_store.specs.Exits.{IsKnown, IsStored, MayLeave}
use Rattle.prt_version.proofs.Folds.{fold_append}
use Rattle.prt_version.specs.Change.{fold}
use Rattle.prt_version.specs.State.{State}
use Rattle.prt_publisher.proofs.Kept.{left_open, ready_by}
use Rattle.prt_publisher.specs.StoreDesk.{LeavesEither, is_shut, published}

-- ---- nothing is refused for its publication before it is committed

abbrev is_unpublished : Refusal → Bool
is_unpublished NotPublished = true
is_unpublished reason = false

state_other : (why : Refusal) → IsOfState why → is_unpublished why ≡ false
state_other Exists of = refl
state_other NoSuch of = refl
state_other Full of = refl
state_other CountFull of = refl
state_other _ of = absurd of

all_other : (state : State) (commands : List Command) (why : Refusal) → AreNotPrepared phases.Ready state commands why → is_unpublished why ≡ false
all_other state commands why (inl (inl is)) = state_other why (all_refused_by state commands why is)
all_other state commands why (inl (inr (is, several))) = ap is_unpublished is
all_other state commands why (inr (accepted, inl is)) = ap is_unpublished is
all_other state commands why (inr (accepted, inr is)) = ap is_unpublished is

-- so what is left may be determined by the reason
other_leaves : (why : Refusal) (before after left : State) → is_unpublished why ≡ false → (left ≡ before) ⊎ ((why ≡ StoreFailed Commit) × (left ≡ after)) → LeavesEither (Err why) before after left
other_leaves NotPublished before after left other either = absurd (let both : true ≡ false = other in cc)
other_leaves _ before after left other either = either

-- ---- what commands leave

module _ {S : Type 0} (g : Ghosts S) (old : Standing (Held S)) (commands : List Command) (new : Standing (Held S)) (stands : Stands g new) where
  abbrev after : State
  after = fold (published old) commands

  left_stored : (stored : State) → IsStored g new.tables stored → (left : State) → MayLeave g new.tables left → left ≡ stored
  left_stored stored holds left may = spelled_once may.0 left stored may.2 (holds.durable may.0 may.1)

  module _ (known : IsKnown g new.ours_first new.tables) (left : State) (may : MayLeave g new.tables left) where
    -- the state before, if they are not prepared
    as_before : IsQuiet old.phase → is_shut old ≡ false → (why : Refusal) → new ≡ old → AreNotPrepared old.phase (published old) commands why → LeavesEither (Err why) (published old) after left
    as_before quiet open_is why same refuses =
        let other = all_other (published old) commands why (subst (λ (p : Phase). AreNotPrepared p (published old) commands why) (ready_by old.phase quiet open_is) refuses) in
        let known_then = subst (λ (d : Standing (Held S)). IsKnown g d.ours_first d.tables) same known in
        let may_then = subst (λ (d : Standing (Held S)). MayLeave g d.tables left) same may in
        other_leaves why (published old) after left other (inl (left_open g old (quiet, subst (Stands g) same stands) open_is known_then left may_then))

    not_stored : (why : Refusal) → AreNotStored g old commands why new → LeavesEither (Err why) (published old) after left
    not_stored why fails = other_leaves why (published old) after left (ap is_unpublished fails.why_is) (fails.leaves known left may)

    -- the state after, if only the publication was refused
    not_published : 1 ≤ length commands → (why : Refusal) → AreNotPublished g old commands why new → LeavesEither (Err why) (published old) after left
    not_published some why fails =
        let Agreed = λ (d : Standing (Held S)). Agrees g d.phase d.commands (line_state d.line) new.tables in
        let stored : IsStored g new.tables after = closed_stored g commands (published old) new.tables some (subst Agreed fails.left (stands known)) in
        subst (λ (e : Refusal). LeavesEither (Err e) (published old) after left) (sym fails.why_is) (left_stored after stored left may)

  pub refused_leaves : 1 ≤ length commands → IsQuiet old.phase → (why : Refusal) → AreNotAcknowledged g old commands why new → is_shut old ≡ false → IsKnown g new.ours_first new.tables → (left : State) → MayLeave g new.tables left
      → LeavesEither (Err why) (published old) after left
  refused_leaves some quiet why (inl same) open_is known left may = as_before known left may quiet open_is why same.0 same.1
  refused_leaves some quiet why (inr (inl fails)) open_is known left may = not_stored known left may why fails
  refused_leaves some quiet why (inr (inr fails)) open_is known left may = not_published known left may some why fails

  pub accepted_leaves : new ≡ record old { phase = phases.Ready; line = grown_by old.line commands; commands = []; tables = new.tables } → IsKnown g new.ours_first new.tables → (left : State) → MayLeave g new.tables left → left ≡ after
  accepted_leaves is known left may =
      let Agreed = λ (d : Standing (Held S)). Agrees g d.phase d.commands (line_state d.line) new.tables in
      let stored : IsStored g new.tables (line_state (grown_by old.line commands)) = subst Agreed is (stands known) in
      left_stored (line_state (grown_by old.line commands)) stored left may ∙ fold_append old.line.base old.line.list commands
