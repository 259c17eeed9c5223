-- Commands that are checked, planned, prepared, published or submitted: their steps, one after the other.
use Rattle.std.proofs.Common.{◌≡◌, ◌⊎◌, inl, inr, ℕ, ◌+◌, ◌≤◌, true, List, [], ◌∷◌, ◌++◌, length, Some, refl, sym, ap, ◌∙◌, subst, arith, ◌<◌, false}
use Rattle.sqlite.specs.Held.{Held}
use Rattle.sqlite.specs.Store.{Ghosts}
use Rattle.prt_refusals.specs.declared.refusal.Refusal.{Refusal}
use Rattle.prt_refusals.specs.declared.refusal.Refusal.TheVariants as refusals
use Rattle.prt_command.specs.declared.request.Command.{Command}
use Rattle.prt_published.specs.Line.{Line, grown_by, line_state}
use Rattle.prt_publisher.proofs.Lists.{state_grown}
use Rattle.prt_publisher.specs.Exits.{AreNotAcknowledged, AreNotChecked, AreNotPrepared, AreNotPublished, AreNotStored, TakesAll}
use Rattle.prt_publisher.specs.Standing.{Agrees, IsQuiet, Standing, Stands}
use Rattle.prt_publisher.specs.declared.phase.Phase.{Phase}
use Rattle.prt_publisher.specs.declared.phase.Phase.TheVariants.{Ready, Admitted, Prepared, Committed, Published, Closed}
use Rattle.prt_store.specs.Exits.{IsKnown, IsStored}
use Rattle.prt_version.proofs.Folds.{count_fold}
use Rattle.prt_version.specs.Accepted.{IsAccepted, refusal_all}
use Rattle.prt_version.specs.Change.{fold}
use Rattle.prt_version.specs.State.{State}
use Rattle.prt_replay.specs.World.{World, has_room, step}
use Rattle.prt_replay.specs.declared.event.Event.{Event}
use Rattle.prt_replay.specs.declared.event.Event.TheVariants as events
use Rattle.prt_replay.specs.declared.outcome.Outcome.TheVariants as outcomes
use Rattle.prt_laws.specs.Events.{AsksSome, asked, commit_events, commit_outcomes, fail_events, fail_outcomes, note_events, note_outcomes, publish_events, publish_outcomes, submit_events, submit_outcomes}
use Rattle.prt_laws.specs.Laws.{ChecksNot, PlansNot, Prepares, PreparesNot, Publishes, Refuses, SubmitFails, SubmitUnpublished, Submits, SubmitsNot, Plans, Admits, DeclinesBy}
use Rattle.prt_laws.specs.Publishers.{Leads, IsPublisherOf}
use Rattle.prt_laws.proofs.Exits.{as_it_was, committed, failed, not_published, noted_on, place_in, planned, published, stands, stored_in, not_planned, admits, asks_registers, declines_full}
use Rattle.prt_laws.proofs.Joined.{idle, leads_by, leads_then, leads_then_to}
use Rattle.prt_laws.proofs.Steps.{busy, refuses, shut}
use Rattle.std.specs.List.{AllByRecursion as Each}
use Rattle.prt_grace.specs.Registry.{RegistryState, reclaimed}
use Rattle.prt_grace.specs.declared.limits.TheConstants.{MOST_RETIRED}
use Rattle.prt_publisher.specs.Step.{AreChecked, commands_checked}
use Rattle.prt_publisher.specs.declared.checked.Checked.{Checked}
use Rattle.prt_laws.specs.Registries.{registry_through}
use Rattle.prt_laws.proofs.Woven.{only_committed}
use Rattle.prt_publisher.proofs.Commits.{closed_stored}

module _ {S : Type 0} (g : Ghosts S) where
  -- ---- the phases between

  abbrev admitted_as : Standing (Held S) → List Command → Standing (Held S)
  admitted_as old commands = record old { phase = Admitted; commands = commands }

  abbrev prepared_as : Standing (Held S) → List Command → Standing (Held S)
  prepared_as old commands = record old { phase = Prepared; commands = commands }

  abbrev committed_as : Standing (Held S) → List Command → Held S → Standing (Held S)
  committed_as old commands tables = record old { phase = Committed; commands = commands; tables = tables }

  abbrev published_as : Standing (Held S) → List Command → Held S → Standing (Held S)
  published_as old commands tables = record old { phase = Published; line = grown_by old.line commands; commands = commands; tables = tables }

  -- a ready publisher whose world has room is there with admitted commands, too
  admitted_there : (old : Standing (Held S)) (commands : List Command) (w : World) → old.phase ≡ Ready → IsPublisherOf g old w → has_room w ≡ true → IsPublisherOf g (admitted_as old commands) w
  admitted_there old commands w ready s room = stands g (admitted_as old commands) w w.disk (place_in g old old w s Ready ready) (stored_in g old old w s Ready ready) room

  abbrev last_number : Standing (Held S) → Event → ℕ
  last_number old event = (line_state old.line).count + length (asked event)

  prepared_there : (old : Standing (Held S)) (event : Event) → AsksSome event → TakesAll old (asked event) → (w : World) → IsPublisherOf g old w → has_room w ≡ true
      → Leads g w (event ∷ []) (outcomes.Prepared (last_number old event) ∷ []) (prepared_as old (asked event))
  prepared_there old event some takes w s room =
      leads_by g (admitted_as old (asked event)) (prepared_as old (asked event)) event (outcomes.Prepared (last_number old event))
      (λ v t. planned g (admitted_as old (asked event)) (prepared_as old (asked event)) v t event some refl refl takes.1) w (admitted_there old (asked event) w takes.0 s room)

  pub prepares : (old new : Standing (Held S)) (event : Event) → AsksSome event → new ≡ prepared_as old (asked event) → TakesAll old (asked event) → Prepares g old new event
  prepares old new event some is takes = (
    ap (λ (p : Standing (Held S)). p.phase) is,
    λ w s room. subst (λ (p : Standing (Held S)). Leads g w (event ∷ []) (outcomes.Prepared (last_number old event) ∷ []) p) (sym is) (prepared_there old event some takes w s room),
  )

  -- ---- refused

  module _ (old new : Standing (Held S)) (is : new ≡ old) (event : Event) (some : AsksSome event) where
    -- the world refuses it, with room or without
    abbrev RefusedThere : Refusal → Type 0
    RefusedThere why = (w : World) → IsPublisherOf g old w → ((step w event).outcome ≡ outcomes.Refused why) × IsPublisherOf g new (step w event).world

    refused_there : (why : Refusal) → old.phase ≡ Ready → refusal_all (line_state old.line) (asked event) ≡ Some why → RefusedThere why
    refused_there why ready refused w s =
        let m = refuses old.line w.disk w event why some refused (place_in g old new w s Ready ready) in
        (m.0, as_it_was g old new is event some w (step w event).world s Ready ready (λ u. tt) m.1)

    shut_there : (why : Refusal) → old.phase ≡ Closed → why ≡ refusals.Closed → RefusedThere why
    shut_there why closed why_is w s =
        let m = shut old.line w.disk w event some (place_in g old new w s Closed closed) in
        (m.0 ∙ ap outcomes.Refused (sym why_is), as_it_was g old new is event some w (step w event).world s Closed closed (λ u. tt) m.1)

    refuses_by : (why : Refusal) → RefusedThere why → Refuses g old new event why
    refuses_by why there = (is, λ w s room. there w s)

    refuses_full : (why : Refusal) → old.phase ≡ Ready → IsAccepted (line_state old.line) (asked event) → why ≡ refusals.Busy → Refuses g old new event why
    refuses_full why ready allowed why_is = (
      is,
      λ w s room.
          let m = busy old.line w.disk w event some allowed (room why_is) (place_in g old new w s Ready ready) in
          (m.0 ∙ ap outcomes.Refused (sym why_is), as_it_was g old new is event some w (step w event).world s Ready ready (λ u. tt) m.1),
    )

    -- for lack of memory nothing is done
    no_memory : (why : Refusal) → old.phase ≡ Ready → why ≡ refusals.NoMemory → PlansNot g old new why
    no_memory why ready memory = (memory, ap (λ (p : Standing (Held S)). p.phase) is ∙ ready, λ w s. idle g new w (subst (λ (p : Standing (Held S)). IsPublisherOf g p w) (sym is) s))

    pub prepares_not : (why : Refusal) → IsQuiet old.phase → AreNotPrepared old.phase (line_state old.line) (asked event) why → PreparesNot g old new event why
    prepares_not why quiet refused = by old.phase refl quiet refused
      where
        by : (phase : Phase) → old.phase ≡ phase → IsQuiet phase → AreNotPrepared phase (line_state old.line) (asked event) why → PreparesNot g old new event why
        by Ready ready quiet (inl (inl reason)) = inr (refuses_by why (refused_there why ready reason))
        by Ready ready quiet (inl (inr (memory, several))) = inl (no_memory why ready memory)
        by Ready ready quiet (inr (allowed, inl full)) = inr (refuses_full why ready allowed full)
        by Ready ready quiet (inr (allowed, inr memory)) = inl (no_memory why ready memory)
        by Closed closed quiet refused = inr (refuses_by why (shut_there why closed refused))
        by phase at quiet refused = absurd quiet

  -- outside the lock
  pub checks_not : (old : Standing (Held S)) (commands : List Command) (why : Refusal) → 1 ≤ length commands → IsQuiet old.phase → AreNotChecked old.phase (line_state old.line) commands why → ChecksNot g old old commands why
  checks_not old commands why some quiet refused = (refl, by old.phase refl quiet refused)
    where
      asks : (event : Event) → commands ≡ asked event → AsksSome event
      asks event same = let long = ap length same in omega (arith, some, long)

      by : (phase : Phase) → old.phase ≡ phase → IsQuiet phase → AreNotChecked phase (line_state old.line) commands why
          → ((why ≡ refusals.NoMemory) × (2 ≤ length commands)) ⊎ ((event : Event) → commands ≡ asked event → (w : World) → IsPublisherOf g old w → ((step w event).outcome ≡ outcomes.Refused why) × IsPublisherOf g old (step w event).world)
      by Ready ready quiet (inl reason) = inr (λ event same. refused_there old old refl event (asks event same) why ready (ap (refusal_all (line_state old.line)) (sym same) ∙ reason))
      by Ready ready quiet (inr several) = inl several
      by Closed closed quiet refused = inr (λ event same. shut_there old old refl event (asks event same) why closed refused)
      by phase at quiet refused = absurd quiet

  -- ---- published

  published_then : (old mid new : Standing (Held S)) → old.phase ≡ Committed → (mid ≡ record old { phase = Published; line = mid.line }) × (mid.line ≡ grown_by old.line old.commands) → new ≡ record mid { phase = Ready; commands = [] }
      → (w : World) → IsPublisherOf g old w → Leads g w publish_events (publish_outcomes (line_state mid.line).count) new
  published_then old mid new phase shown is w s =
      let at : mid.phase ≡ Published = ap (λ (p : Standing (Held S)). p.phase) shown.0 in
      leads_then g w mid new (events.Publish ∷ []) note_events (outcomes.Published (line_state mid.line).count ∷ []) (note_outcomes mid.line) (published g old mid w s phase shown) (λ v t. noted_on g mid new v t at is)

  pub publishes_it : (old new : Standing (Held S)) (told : Line) → old.phase ≡ Committed → (new ≡ record old { phase = Ready; line = new.line; commands = [] }) × (new.line ≡ grown_by old.line old.commands) → told ≡ new.line → Publishes g old new told
  publishes_it old new told phase ok receipt = (
    ap (λ (p : Standing (Held S)). p.phase) ok.0,
    λ w s.
        let r = published_then old (record old { phase = Published; line = new.line }) new phase (refl, ok.1) ok.0 w s in
        subst (λ (l : Line). Leads g w publish_events (publish_outcomes (line_state l).count) new) (sym receipt) r,
  )

  -- ---- submitted

  module _ (old new : Standing (Held S)) (event : Event) (some : AsksSome event) (takes : TakesAll old (asked event)) where
    -- the state after them
    abbrev after : State
    after = fold (line_state old.line) (asked event)

    committed_there : (IsKnown g old.ours_first new.tables → IsStored g new.tables after) → (w : World) → IsPublisherOf g old w → has_room w ≡ true
        → Leads g w (event ∷ commit_events (asked event)) (outcomes.Prepared (last_number old event) ∷ commit_outcomes (asked event)) (committed_as old (asked event) new.tables)
    committed_there stored w s room =
        leads_then g w (prepared_as old (asked event)) (committed_as old (asked event) new.tables) (event ∷ []) (commit_events (asked event)) (outcomes.Prepared (last_number old event) ∷ []) (commit_outcomes (asked event))
        (prepared_there old event some takes w s room) (λ v t. committed g (prepared_as old (asked event)) (committed_as old (asked event) new.tables) v t refl refl stored)

    pub submits_it : (told : Line) → told ≡ grown_by old.line (asked event) → new ≡ record old { phase = Ready; line = grown_by old.line (asked event); commands = []; tables = new.tables } → Stands g new → Submits g old new event told
    submits_it told receipt is kept = (
      ap (λ (p : Standing (Held S)). p.phase) is,
      λ w s room.
          let commands = asked event in
          let mid = committed_as old commands new.tables in
          let line : Line = grown_by old.line commands in
          let held : IsKnown g old.ours_first new.tables → IsStored g new.tables (line_state line) = subst (λ (p : Standing (Held S)). IsKnown g p.ours_first new.tables → Agrees g p.phase p.commands (line_state p.line) new.tables) is kept in
          let stored : IsKnown g old.ours_first new.tables → IsStored g new.tables after = λ known. subst (λ (state : State). IsStored g new.tables state) (state_grown old.line line commands refl) (held known) in
          let count : (line_state line).count ≡ last_number old event = ap (λ (state : State). state.count) (state_grown old.line line commands refl) ∙ count_fold (line_state old.line) commands takes.1 in
          let all = leads_then g w mid new (event ∷ commit_events commands) publish_events (outcomes.Prepared (last_number old event) ∷ commit_outcomes commands) (publish_outcomes (line_state line).count)
          (committed_there stored w s room) (λ v t. published_then mid (published_as old commands new.tables) new refl (refl, refl) is v t) in
          subst (λ (n : ℕ). Leads g w (submit_events event) (submit_outcomes commands n) new) (ap (λ (l : Line). (line_state l).count) (sym receipt))
          (subst (λ (n : ℕ). Leads g w (submit_events event) (outcomes.Prepared n ∷ (commit_outcomes commands ++ publish_outcomes (line_state line).count)) new) (sym count) all),
    )

    pub submit_fails : (why : Refusal) → AreNotStored g old (asked event) why new → SubmitFails g old new event why
    submit_fails why fails = (
      ap (λ (p : Standing (Held S)). p.phase) fails.left,
      ap (λ (p : Standing (Held S)). p.commands) fails.left,
      fails.call,
      fails.why_is,
      λ known left may.
          let mid = prepared_as old (asked event) in
          let by = failed g mid new refl fails.left why fails.call fails.why_is fails.leaves known left may in (
            by.0,
            λ w s room.
                leads_then_to g w mid new left (event ∷ []) (fail_events (asked event) fails.call by.0) (outcomes.Prepared (last_number old event) ∷ []) (fail_outcomes (asked event) fails.call) (prepared_there old event some takes w s room) by.1,
          ),
    )

    pub submit_unpublished : (why : Refusal) → AreNotPublished g old (asked event) why new → Stands g new → SubmitUnpublished g old new event why
    submit_unpublished why fails kept = (
      fails.why_is,
      ap (λ (p : Standing (Held S)). p.phase) fails.left,
      ap (λ (p : Standing (Held S)). p.commands) fails.left,
      λ w s room.
          let commands = asked event in
          let mid = committed_as old commands new.tables in
          let held : IsKnown g old.ours_first new.tables → Agrees g Closed commands (line_state old.line) new.tables =
          subst (λ (p : Standing (Held S)). IsKnown g p.ours_first new.tables → Agrees g p.phase p.commands (line_state p.line) new.tables) fails.left kept in
          let stored : IsKnown g old.ours_first new.tables → IsStored g new.tables after = λ known. closed_stored g commands (line_state old.line) new.tables some (held known) in
          leads_then g w mid new (event ∷ commit_events commands) (events.PublishFail ∷ []) (outcomes.Prepared (last_number old event) ∷ commit_outcomes commands) (outcomes.Refused refusals.NotPublished ∷ [])
          (committed_there stored w s room) (λ v t. not_published g mid new v t refl fails.left),
    )

  -- ---- not acknowledged

  pub submits_not : (old new : Standing (Held S)) (event : Event) (why : Refusal) → AsksSome event → IsQuiet old.phase → AreNotAcknowledged g old (asked event) why new → Stands g new → SubmitsNot g old new event why
  submits_not old new event why some quiet exit kept = elim exit [
    | inl refused ↦ inl (prepares_not old new refused.0 event some why quiet refused.1)
    | inr more ↦ elim more [
      | inl fails ↦ inr (inl (submit_fails old new event some fails.takes why fails))
      | inr fails ↦ inr (inr (submit_unpublished old new event some fails.takes why fails kept))
    ]
  ]

-- ---- the steps in one registry: commands are checked outside its lock, and admitted under it

-- store calls are nothing to the registry
calls_through : (list : List Event) → Each (λ event. events.Call ≡ event) list → (r : RegistryState) (w : World) → r ≡ registry_through r w list
calls_through [] each r w = refl
calls_through (event ∷ list) each r w = subst (λ (x : Event). r ≡ registry_through r w (x ∷ list)) each.0 (calls_through list each.1 r (step w events.Call).world)

pub commit_through : (commands : List Command) (r : RegistryState) (w : World) → r ≡ registry_through r w (commit_events commands)
commit_through commands r w = calls_through (commit_events commands) (only_committed (λ event. events.Call ≡ event) refl commands) r w

module _ {S : Type 0} (g : Ghosts S) (old new : Standing (Held S)) where
  pub plans : old.phase ≡ Admitted → new ≡ record old { phase = Prepared } → IsAccepted (line_state old.line) old.commands → Plans g old new
  plans phase is allowed event some under =
      let there : new ≡ record old { phase = Prepared; commands = asked event } = is ∙ ap (λ (commands : List Command). record old { phase = Prepared; commands = commands }) under in
      let taken : IsAccepted (line_state old.line) (asked event) = subst (IsAccepted (line_state old.line)) under allowed in (
        ap (λ (p : Standing (Held S)). p.phase) is,
        leads_by g old new event (outcomes.Prepared ((line_state old.line).count + length (asked event))) (λ v s. planned g old new v s event some phase there taken),
      )

  pub plans_not : old.phase ≡ Admitted → new ≡ record old { phase = Ready; commands = [] } → (w : World) → IsPublisherOf g old w → Leads g w [] [] new
  plans_not phase is w s = idle g new w (not_planned g old new w s phase is)

  -- what the world refuses it refuses under the lock, too
  pub declines_checked : (commands : List Command) (why : Refusal) → ChecksNot g old new commands why → (event : Event) → AsksSome event → commands ≡ asked event → (r : RegistryState) → ((why ≡ refusals.NoMemory) × (2 ≤ length commands)) ⊎ DeclinesBy g old new false r r event why
  declines_checked commands why refused event some same r = elim refused.1 [
    | inl memory ↦ inl memory
    | inr law ↦ inr (refused.0, λ w h. let m = law event same w h.0 in (m.0, (m.1, asks_registers event some r w h.1)))
  ]

  module _ (before r : RegistryState) (ready : old.phase ≡ Ready) (checked : Checked) (are : AreChecked (line_state old.line) checked) (registry : r ≡ reclaimed before) where
    pub admits_checked : new ≡ record old { phase = Admitted; commands = commands_checked checked } → length r.retired < MOST_RETIRED → Admits g old new before r
    admits_checked is room = (ap (λ (p : Standing (Held S)). p.phase) is, λ w h. admits g old new before r w h.0 h.1 (commands_checked checked) is ready (registry, room))

    pub declines_full_checked : (why : Refusal) → why ≡ refusals.Busy → new ≡ old → MOST_RETIRED ≤ length r.retired → (event : Event) → AsksSome event → commands_checked checked ≡ asked event → DeclinesBy g old new true before r event why
    declines_full_checked why busy same full event some asks =
        declines_full g old new same event some before r why ready (subst (IsAccepted (line_state old.line)) asks are.accepted) registry busy full
