-- What a commit leaves.
use Rattle.std.proofs.Common.{◌≡◌, ◌⊎◌, inl, inr, ℕ, ◌+◌, ◌≤◌, Bool, List, [], ◌∷◌, length, sym, ap, subst, ◌∙◌, arith}
use Rattle.std.specs.Prelude.{IsTrue}
use Rattle.std.specs.Arc.{arc_value}
use Rattle.sqlite.specs.Effect.{Database}
use Rattle.sqlite.specs.Held.{Held, state}
use Rattle.sqlite.specs.Store.{Ghosts}
use Rattle.sqlite.specs.Tree.{Trees}
use Rattle.prt_refusals.specs.declared.refusal.Refusal.{Refusal}
use Rattle.prt_refusals.specs.declared.refusal.Refusal.TheVariants.{StoreFailed}
use Rattle.prt_refusals.specs.declared.refusal.StoreCall.TheVariants.{Commit}
use Rattle.prt_command.specs.declared.request.Command.{Command}
use Rattle.prt_store.proofs.Accepted.{are_made, are_next}
use Rattle.prt_store.specs.Exits.{IsKnown, IsStored, MayLeave, Spells}
use Rattle.prt_store.specs.Made.{MakesChanges}
use Rattle.prt_store.specs.Next.{AreNext, put_all}
use Rattle.prt_store.specs.Openings.{HasDone}
use Rattle.prt_store.specs.Stored.{Stores}
use Rattle.prt_version.proofs.Folds.{count_fold}
use Rattle.prt_version.specs.Accepted.{IsAccepted, changes_of}
use Rattle.prt_version.specs.Change.{fold}
use Rattle.prt_version.specs.State.{State}
use Rattle.prt_version.specs.declared.change.Change.{Change}
use Rattle.prt_published.specs.Line.{line_state}
use Rattle.prt_publisher.specs.Exits.{HaveCommitted}
use Rattle.prt_publisher.specs.Standing.{Agrees, IsLeft, Standing}
use Rattle.prt_publisher.specs.Step.{IsPlan, IsStep, commands_of, phase_of}
use Rattle.prt_publisher.specs.declared.phase.Phase.TheVariants.{Closed}
use Rattle.prt_publisher.specs.declared.plan.Plan.{Plan}
use Rattle.prt_publisher.specs.declared.publisher.Step.{Step}
use Rattle.prt_publisher.specs.declared.publisher.Step.TheVariants as step

-- What is known of prepared commands when they are committed under the number of the state after them.
pub record CanCommit {S : Type 0} (g : Ghosts S) (ours_first : Bool) (tables : Held S) (published : State) (plan : Plan) (changes : List Change) (number : ℕ) : Type 0 where
  pub planned : IsPlan published plan
  pub counted : number ≡ published.count + length plan.commands.items
  pub are : changes ≡ changes_of published plan.commands.items
  pub next : AreNext published changes number
  pub after : put_all published changes ≡ fold published plan.commands.items
  pub kept : IsKnown g ours_first tables → IsStored g tables published

pub can_commit : {S : Type 0} (g : Ghosts S) (ours_first : Bool) (tables : Held S) (published : State) (at : Step) (plan : Plan) (changes : List Change) (number : ℕ) (after : State) → changes ≡ plan.changes.items → at ≡ step.Prepared plan → number ≡ after.count → after ≡ arc_value plan.next → IsStep published at
    → (IsKnown g ours_first tables → Agrees g (phase_of at) (commands_of at) published tables) → CanCommit g ours_first tables published plan changes number
can_commit g ours_first tables published at plan changes number after same is numbered after_is kept agrees =
    let planned : IsPlan published plan = subst (IsStep published) is kept in
    let commands = plan.commands.items in
    let are : changes ≡ changes_of published commands = same ∙ planned.changes in
    let made = are_made published commands planned.storable planned.accepted in
    let counted : number ≡ published.count + length commands = numbered ∙ (ap (λ (state : State). state.count) (after_is ∙ planned.next) ∙ count_fold published commands planned.accepted) in
    record {
      planned = planned;
      counted = counted;
      are = are;
      next = subst (λ (list : List Change). AreNext published list number) (sym are) (are_next published commands number planned.sound planned.storable planned.accepted counted);
      after = subst (λ (list : List Change). put_all published list ≡ fold published commands) (sym are) made.1;
      kept = λ known. subst (λ (x : Step). Agrees g (phase_of x) (commands_of x) published tables) is (agrees known);
    }

module _ {S : Type 0} (g : Ghosts S) (old new : Held S) (published after : State) (commands : List Command) (reason : Refusal) (is_after : after ≡ fold published commands) (accepted : IsAccepted published commands) (held : Stores (state g old).now published)
    (same : IsTrue (state g new).is_open → (state g new).now ≡ (state g old).now) where
  pub still_stored : IsTrue (state g new).is_open → Stores (state g new).now published
  still_stored is_open = subst (λ (db : Database). Stores db published) (sym (same is_open)) held

  module _ (either : (left : State) → MayLeave g new left → (left ≡ published) ⊎ ((reason ≡ StoreFailed Commit) × (left ≡ after))) where
    pub either_left : (left : State) → MayLeave g new left → (left ≡ published) ⊎ ((reason ≡ StoreFailed Commit) × (left ≡ fold published commands))
    either_left left may = elim (either left may) [
      | inl is ↦ inl is
      | inr more ↦ inr (more.0, more.1 ∙ is_after)
    ]

    before_or_after : (stored : State) → MayLeave g new stored → (stored ≡ published) ⊎ (stored ≡ fold published commands)
    before_or_after stored may = elim (either_left stored may) [
      | inl is ↦ inl is
      | inr more ↦ inr more.1
    ]

    pub left_after : ((trees : Trees) → (state g new).may_leave trees → (left : State) × Spells trees left) → IsLeft g new published
    left_after spells = record {
      now = still_stored;
      commands = commands;
      accepted = accepted;
      durable = λ trees may. let left = spells trees may in (left.0, left.1, before_or_after left.0 (trees, may, left.1));
    }

-- what ran were the changes of the commands under way
pub have_committed : {S : Type 0} (g : Ghosts S) (old : Standing (Held S)) (published : State) (conn new : Held S) (commands : List Command) (changes : List Change) (number : ℕ) → line_state old.line ≡ published → old.commands ≡ commands → old.tables ≡ conn
    → changes ≡ changes_of published commands → number ≡ published.count + length commands → HasDone g (MakesChanges g changes number) conn (state g new).committed → HaveCommitted g old old.commands new
have_committed g old published conn new commands changes number shown under held are counted done =
    rw (shown, under, held)
    (subst (λ (list : List Change). HasDone g (MakesChanges g list (published.count + length commands)) conn (state g new).committed) are
    (subst (λ (n : ℕ). HasDone g (MakesChanges g changes n) conn (state g new).committed) counted done))

-- commands that are stored and not published
pub closed_stored : {S : Type 0} (g : Ghosts S) (commands : List Command) (published : State) (tables : Held S) → 1 ≤ length commands → Agrees g Closed commands published tables → IsStored g tables (fold published commands)
closed_stored g [] published tables some kept = absurd (omega (arith, some))
closed_stored g (command ∷ commands) published tables some kept = kept
