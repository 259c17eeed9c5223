-- Turns of a desk over a publisher: what each state that it may stand for after commands is explained by.
use Rattle.std.proofs.Common.{◌≡◌, ◌⊎◌, inl, inr, ℕ, ◌≤◌, Bool, true, false, List, [], ◌∷◌, length, Option, Some, None, Result, Ok, Err, IfSome, refl, sym, ap, subst, ◌∙◌, arith}
use Rattle.sqlite.specs.Held.{Held, state}
use Rattle.sqlite.specs.Store.{Ghosts}
use Rattle.prt_refusals.specs.declared.refusal.Refusal.{Refusal}
use Rattle.prt_refusals.specs.declared.refusal.Refusal.TheVariants as reasons
use Rattle.prt_refusals.specs.declared.refusal.StoreCall.TheVariants.{Commit}
use Rattle.prt_command.specs.declared.request.Command.{Command}
use Rattle.prt_published.specs.Line.{Line, grown_by, line_state}
use Rattle.prt_publisher.specs.Exits.{AreNotAcknowledged, AreNotPrepared, AreNotPublished, AreNotStored, TakesAll}
use Rattle.prt_publisher.specs.Standing.{IsQuiet, Standing}
use Rattle.prt_publisher.specs.declared.phase.Phase.{Phase}
use Rattle.prt_publisher.specs.declared.phase.Phase.TheVariants as phases
use Rattle.prt_session.specs.Desk.{DeskState, ListTurn, Mishap, no_memory, no_room, store_fails, commit_kept, publication_fails, command_or_refusal, commands_or_refusal, settled, shut, submit, submit_all}
use Rattle.prt_session.specs.Session.{Turn}
use Rattle.prt_session.specs.Stands.{Explained, StandsForSome}
use Rattle.prt_session.specs.Steps.{CommandGives, CommandsGive, reply_of}
use Rattle.prt_version.proofs.Folds.{fold_append, none_refused}
use Rattle.prt_version.specs.Accepted.{IsAccepted, or_later, refusal_all}
use Rattle.prt_version.specs.Change.{fold, refusal}
use Rattle.prt_version.specs.State.{State}
use Rattle.prt_publisher.specs.StoreDesk.{IsPerhapsStored, IsStoreMishap, StandsBy, StandsFor, published}

-- What a desk returns for commands that are made together, by what comes of them.
pub record Turns (commands : List Command) (Gives : DeskState → Result ℕ Refusal → DeskState → Type 0) (state : State) : Type 0 where
  pub refused : (why : Refusal) → refusal_all state commands ≡ Some why → Gives (settled state) (Err why) (settled state)
  -- memory was refused on the way to a refusal
  pub several : 2 ≤ length commands → Gives (settled state) (Err reasons.NoMemory) (settled state)
  pub closed : (desk : DeskState) → desk.closed ≡ true → Gives desk (Err reasons.Closed) desk
  pub taken : IsAccepted state commands → (mishap : Option Mishap) → Gives (settled state) (submit_all (settled state) commands mishap).result (submit_all (settled state) commands mishap).desk

all_may : (mishap : Option Mishap) → IfSome mishap IsStoreMishap
all_may None = tt
all_may (Some mishap) = tt

-- ---- one command

one_refusal : (first : Option Refusal) → or_later first None ≡ first
one_refusal None = refl
one_refusal (Some reason) = refl

one_reply : (desk : DeskState) (command : Command) (mishap : Option Mishap) → record { reply = reply_of (submit_all desk (command ∷ []) mishap).result; desk = (submit_all desk (command ∷ []) mishap).desk } ≡ submit desk command mishap
one_reply desk command None = refl
one_reply desk command (Some no_room) = refl
one_reply desk command (Some mishap) = refl

pub one_turns : (state : State) (command : Command) → Turns (command ∷ []) (λ before result after. CommandGives IsStoreMishap before command result after) state
one_turns state command = record {
  refused = λ why is. by (Some why) None (Err why) (settled state) is refl refl;
  several = λ some. absurd (omega (arith, some));
  closed = λ desk is. (
    None,
    tt,
    ap (λ closed. (command_or_refusal desk command closed (refusal desk.published command) None).reply) (sym is),
    ap (λ closed. (command_or_refusal desk command closed (refusal desk.published command) None).desk) (sym is),
  );
  taken = λ accepted mishap.
      let same = one_reply (settled state) command mishap in
      let made = submit_all (settled state) (command ∷ []) mishap in
      by None mishap made.result made.desk (none_refused state (command ∷ []) accepted) (ap (λ (t : Turn DeskState). t.reply) same) (ap (λ (t : Turn DeskState). t.desk) same);
}
  where
    by : (first : Option Refusal) (mishap : Option Mishap) (result : Result ℕ Refusal) (desk : DeskState) → refusal_all state (command ∷ []) ≡ first → reply_of result ≡ (command_or_refusal (settled state) command false first mishap).reply
        → desk ≡ (command_or_refusal (settled state) command false first mishap).desk → CommandGives IsStoreMishap (settled state) command result desk
    by first mishap result desk is reply left =
        let same = sym is ∙ one_refusal (refusal state command) in (
          mishap,
          all_may mishap,
          reply ∙ ap (λ r. (command_or_refusal (settled state) command false r mishap).reply) same,
          left ∙ ap (λ r. (command_or_refusal (settled state) command false r mishap).desk) same,
        )

-- ---- commands of a file

module _ (state : State) (commands : List Command) where
  abbrev Gives : Result ℕ Refusal → DeskState → Type 0
  Gives result after = CommandsGive IsStoreMishap (settled state) commands result after

  -- what a mishap makes of commands of which this one is refused, or none
  abbrev ends_by : Option Refusal → Option Mishap → ListTurn
  ends_by first mishap = commands_or_refusal (settled state) commands false first mishap

  ends_so : (first : Option Refusal) (mishap : Option Mishap) → refusal_all state commands ≡ first → Gives (ends_by first mishap).result (ends_by first mishap).desk
  ends_so first mishap is = (mishap, all_may mishap, ap (λ r. (ends_by r mishap).result) (sym is), ap (λ r. (ends_by r mishap).desk) (sym is))

  memory_ends : (first : Option Refusal) → refusal_all state commands ≡ first → Gives (Err reasons.NoMemory) (settled state)
  memory_ends None is = ends_so None (Some no_memory) is
  memory_ends (Some reason) is = ends_so (Some reason) (Some no_memory) is

  pub all_turns : Turns commands (λ before result after. CommandsGive IsStoreMishap before commands result after) state
  all_turns = record {
    refused = λ why is. ends_so (Some why) None is;
    several = λ _. memory_ends (refusal_all state commands) refl;
    closed = λ desk is. (
      None,
      tt,
      ap (λ closed. (commands_or_refusal desk commands closed (refusal_all desk.published commands) None).result) (sym is),
      ap (λ closed. (commands_or_refusal desk commands closed (refusal_all desk.published commands) None).desk) (sym is),
    );
    taken = λ accepted mishap. ends_so None mishap (none_refused state commands accepted);
  }

-- ---- the desk

module _ {S : Type 0} (g : Ghosts S) (ours_first : Bool) (tables : Held S) (shown : State) where
  closed_by : (under : List Command) (desk : DeskState) → StandsBy g ours_first tables shown phases.Closed under desk → desk.closed ≡ true
  closed_by [] desk is = is.1
  closed_by (command ∷ commands) desk is = ap (λ (d : DeskState). d.closed) is

  something_by : (phase : Phase) (under : List Command) → IsQuiet phase → (desk : DeskState) × StandsBy g ours_first tables shown phase under desk
  something_by phases.Ready under quiet = (settled shown, refl)
  something_by phases.Closed [] quiet = (shut (settled shown) shown, (refl, refl, inl refl))
  something_by phases.Closed (command ∷ commands) quiet = (shut (settled shown) (fold shown (command ∷ commands)), refl)
  something_by phase under quiet = absurd quiet

  unpublished_by : (under : List Command) → 1 ≤ length under → (desk : DeskState) → StandsBy g ours_first tables shown phases.Closed under desk → desk ≡ shut (settled shown) (fold shown under)
  unpublished_by [] some desk is = absurd (omega (arith, some))
  unpublished_by (command ∷ commands) some desk is = is

-- a desk stands for something
pub something : {S : Type 0} (g : Ghosts S) (desk : Standing (Held S)) → IsQuiet desk.phase → StandsForSome (StandsFor g) desk
something g desk quiet = something_by g desk.ours_first desk.tables (published desk) desk.phase desk.commands quiet

module _ {S : Type 0} (g : Ghosts S) (old : Standing (Held S)) {commands : List Command} {GivesAt : DeskState → Result ℕ Refusal → DeskState → Type 0} (turns : Turns commands GivesAt (published old)) where
  abbrev Explains : Standing (Held S) → Result ℕ Refusal → Type 0
  Explains new result = Explained (StandsFor g) old new (λ before after. GivesAt before result after)

  ready_stands : old.phase ≡ phases.Ready → StandsFor g old (settled (published old))
  ready_stands is = subst (λ (p : Phase). StandsBy g old.ours_first old.tables (published old) p old.commands (settled (published old))) (sym is) refl

  ready_is : old.phase ≡ phases.Ready → (desk : DeskState) → StandsFor g old desk → desk ≡ settled (published old)
  ready_is is desk stands = subst (λ (p : Phase). StandsBy g old.ours_first old.tables (published old) p old.commands desk) is stands

  abbrev before : DeskState
  before = settled (published old)

  as_settled : old.phase ≡ phases.Ready → (result : Result ℕ Refusal) → GivesAt before result before → Explains old result
  as_settled ready result gives after stands = (after, stands, subst (λ (d : DeskState). GivesAt d result d) (sym (ready_is ready after stands)) gives)

  closed_refused : old.phase ≡ phases.Closed → Explains old (Err reasons.Closed)
  closed_refused closed after stands =
      let by = subst (λ (p : Phase). StandsBy g old.ours_first old.tables (published old) p old.commands after) closed stands in
      (after, stands, turns.closed after (closed_by g old.ours_first old.tables (published old) old.commands after by))

  for_that : (why reason : Refusal) → why ≡ reason → Explains old (Err reason) → Explains old (Err why)
  for_that why reason is explained = subst (λ (e : Refusal). Explains old (Err e)) (sym is) explained

  refused_by : (phase : Phase) → old.phase ≡ phase → IsQuiet phase → (why : Refusal) → AreNotPrepared phase (published old) commands why → Explains old (Err why)
  refused_by phases.Ready is quiet why (inl (inl first)) = as_settled is (Err why) (turns.refused why first)
  refused_by phases.Ready is quiet why (inl (inr (memory, several))) = for_that why reasons.NoMemory memory (as_settled is (Err reasons.NoMemory) (turns.several several))
  refused_by phases.Ready is quiet why (inr (accepted, inl busy)) = for_that why reasons.Busy busy (as_settled is (Err reasons.Busy) (turns.taken accepted (Some no_room)))
  refused_by phases.Ready is quiet why (inr (accepted, inr memory)) = for_that why reasons.NoMemory memory (as_settled is (Err reasons.NoMemory) (turns.taken accepted (Some no_memory)))
  refused_by phases.Closed is quiet why refuses = for_that why reasons.Closed refuses (closed_refused is)
  refused_by phase is quiet why refuses = absurd quiet

  abbrev Fits : Refusal → DeskState → Type 0
  Fits why desk = GivesAt before (Err why) desk

  -- a failed commit leaves the state before or, only if the commit call failed, possibly the one after the commands
  module _ (why : Refusal) (new : Standing (Held S)) (fails : AreNotStored g old commands why new) where
    either : (stored : State) → IsPerhapsStored g old.ours_first new.tables (published old) stored → (stored ≡ published old) ⊎ ((why ≡ reasons.StoreFailed Commit) × (stored ≡ fold (published old) commands))
    either stored (inl is) = inl is
    either stored (inr left) =
        let format : new.ours_first ≡ old.ours_first = ap (λ (d : Standing (Held S)). d.ours_first) fails.left in
        fails.leaves (format ∙ left.0.0, left.0.1) stored left.1

    shut_is : (after : DeskState) (stored : State) → after.published ≡ published old → after.closed ≡ true → after.stored ≡ stored → shut before stored ≡ after
    shut_is after stored shown closed is = λ i. record { published = sym shown i; stored = sym is i; closed = sym closed i }

    fits : (after : DeskState) → after.published ≡ published old → after.closed ≡ true
        → (after.stored ≡ published old) ⊎ ((why ≡ reasons.StoreFailed Commit) × (after.stored ≡ fold (published old) commands)) → Fits why after
    fits after shown closed (inl is) =
        subst (Fits why) (shut_is after (published old) shown closed is)
        (subst (λ (e : Refusal). Fits e (shut before (published old))) (sym fails.why_is) (turns.taken fails.takes.1 (Some (store_fails fails.call))))
    fits after shown closed (inr made) =
        subst (Fits why) (shut_is after (fold (published old) commands) shown closed made.1)
        (subst (λ (e : Refusal). Fits e (shut before (fold (published old) commands))) (sym made.0) (turns.taken fails.takes.1 (Some commit_kept)))

    abbrev closed_then : Standing (Held S)
    closed_then = record old { phase = phases.Closed; commands = []; tables = new.tables }

    then_explained : Explains closed_then (Err why)
    then_explained after stands = (before, ready_stands fails.takes.0, fits after stands.0 stands.1 (either after.stored stands.2))

    store_failed : Explains new (Err why)
    store_failed = subst (λ (d : Standing (Held S)). Explains d (Err why)) (sym fails.left) then_explained

  -- a refused publication leaves the commands stored
  module _ (why : Refusal) (new : Standing (Held S)) (some : 1 ≤ length commands) (fails : AreNotPublished g old commands why new) where
    abbrev unpublished : Standing (Held S)
    unpublished = record old { phase = phases.Closed; commands = commands; tables = new.tables }

    unpublished_explained : Explains unpublished (Err why)
    unpublished_explained after stands = (
      before,
      ready_stands fails.takes.0,
      subst (Fits why) (sym (unpublished_by g old.ours_first new.tables (published old) commands some after stands)) (subst (λ (e : Refusal). Fits e (shut before (fold (published old) commands))) (sym fails.why_is) (turns.taken fails.takes.1 (Some publication_fails))),
    )

    publish_failed : Explains new (Err why)
    publish_failed = subst (λ (d : Standing (Held S)). Explains d (Err why)) (sym fails.left) unpublished_explained

  pub refused_explained : IsQuiet old.phase → 1 ≤ length commands → (why : Refusal) (new : Standing (Held S)) → AreNotAcknowledged g old commands why new → Explains new (Err why)
  refused_explained quiet some why new (inl same) = subst (λ (d : Standing (Held S)). Explains d (Err why)) (sym same.0) (refused_by old.phase refl quiet why same.1)
  refused_explained quiet some why new (inr (inl fails)) = store_failed why new fails
  refused_explained quiet some why new (inr (inr fails)) = publish_failed why new some fails

  -- accepted commands are published
  module _ (tables : Held S) where
    abbrev shown : State
    shown = line_state (grown_by old.line commands)

    abbrev next : Standing (Held S)
    next = record old { phase = phases.Ready; line = grown_by old.line commands; commands = []; tables = tables }

    next_explained : TakesAll old commands → Explains next (Ok shown.count)
    next_explained takes after stands =
        let is : shown ≡ fold (published old) commands = fold_append old.line.base old.line.list commands in (
          before,
          ready_stands takes.0,
          subst (λ (d : DeskState). GivesAt before (Ok shown.count) d) (sym stands) (subst (λ (s : State). GivesAt before (Ok s.count) (settled s)) (sym is) (turns.taken takes.1 None)),
        )

  pub accepted_explained : (new : Standing (Held S)) (receipt : Line) (number : ℕ) → TakesAll old commands → receipt ≡ grown_by old.line commands → number ≡ (line_state receipt).count
      → new ≡ record old { phase = phases.Ready; line = grown_by old.line commands; commands = []; tables = new.tables } → Explains new (Ok number)
  accepted_explained new receipt number takes is counted left =
      subst (λ (n : ℕ). Explains new (Ok n)) (sym (counted ∙ ap (λ (l : Line). (line_state l).count) is))
      (subst (λ (d : Standing (Held S)). Explains d (Ok (line_state (grown_by old.line commands)).count)) (sym left) (next_explained new.tables takes))
