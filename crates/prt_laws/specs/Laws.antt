-- What the exits of a publisher's calls are in the world.
use Rattle.std.specs.Prelude.{◌≡◌, ◌⊎◌, ℕ, Bool, true, false, ◌+◌, ◌≤◌, All, List, [], ◌∷◌, length}
use Rattle.sqlite.specs.Held.{Held, state}
use Rattle.sqlite.specs.Store.{Ghosts}
use Rattle.sqlite.specs.Tree.{Trees}
use Rattle.prt_refusals.specs.declared.refusal.Refusal.{Refusal}
use Rattle.prt_refusals.specs.declared.refusal.Refusal.TheVariants.{Busy, NoMemory, NotPublished, StoreFailed}
use Rattle.prt_refusals.specs.declared.refusal.StoreCall.{StoreCall}
use Rattle.prt_command.specs.Storable.{IsStorable}
use Rattle.prt_command.specs.declared.request.Command.{Command}
use Rattle.prt_published.specs.Line.{Line, line_state}
use Rattle.prt_grace.specs.Registry.{RegistryState, new_registry}
use Rattle.prt_publisher.specs.Standing.{Standing, Stands}
use Rattle.prt_publisher.specs.declared.phase.Phase.TheVariants.{Ready, Admitted, Prepared, Committed, Published, Closed}
use Rattle.prt_store.specs.Exits.{IsKnown, MayLeave, Spells}
use Rattle.prt_store.specs.Stops.{AllStoppedIn}
use Rattle.prt_version.specs.Accepted.{IsAccepted, changes_of}
use Rattle.prt_version.specs.State.{State}
use Rattle.prt_replay.specs.World.{World, has_room, outcomes_from, run_from, step}
use Rattle.prt_replay.specs.declared.event.Event.{Event}
use Rattle.prt_replay.specs.declared.event.Event.TheVariants as events
use Rattle.prt_replay.specs.declared.event.Fate.{Fate}
use Rattle.prt_replay.specs.declared.event.Fate.TheVariants.{Lost}
use Rattle.prt_replay.specs.declared.outcome.Outcome.TheVariants as outcomes
use Rattle.prt_laws.specs.Events.{AsksSome, asked, commit_events, commit_outcomes, fail_events, fail_outcomes, note_events, note_outcomes, own}
use Rattle.prt_laws.specs.Events.{own_outcomes, publish_events, publish_outcomes, reclaim_events, stop_events, stop_outcomes, submit_events}
use Rattle.prt_laws.specs.Events.{submit_outcomes, unpublished_events, unpublished_outcomes}
use Rattle.prt_laws.specs.Registries.{registry_after}
use Rattle.prt_laws.specs.Publishers.{Leads, LeadsTo, AreBothOf, IsPublisherOf}

module _ {S : Type 0} (g : Ghosts S) (old new : Standing (Held S)) where
  -- ---- the steps

  -- under the registry's lock: a reclaim, and the commands are admitted
  abbrev pub Admits : RegistryState → RegistryState → Type 0
  Admits before r = (new.phase ≡ Admitted) × ((w : World) → AreBothOf g old before w → AreBothOf g new r (step w events.Reclaim).world)

  -- the world refuses what this event submits, for that reason
  abbrev pub Refused : RegistryState → World → Event → Refusal → Type 0
  Refused r w event why = ((step w event).outcome ≡ outcomes.Refused why) × AreBothOf g new r (step w event).world

  -- refused at once, or after a reclaim; the publisher is as it was
  abbrev pub DeclinesBy : Bool → RegistryState → RegistryState → Event → Refusal → Type 0
  DeclinesBy reclaims before r event why = (new ≡ old) × ((w : World) → AreBothOf g old before w → Refused r (run_from w (reclaim_events reclaims)) event why)

  -- the number of the last command that this event submits
  abbrev pub last_number : Event → ℕ
  last_number event = (line_state old.line).count + length (asked event)

  -- the admitted commands are under way
  abbrev pub PlansBy : Event → Type 0
  PlansBy event = (new.phase ≡ Prepared) × ((w : World) → IsPublisherOf g old w → Leads g w (event ∷ []) (outcomes.Prepared (last_number event) ∷ []) new)

  -- by each event that submits them
  abbrev pub Plans : Type 0
  Plans = (event : Event) → AsksSome event → old.commands ≡ asked event → PlansBy event

  -- they are given up for lack of memory, of which the world has no event
  abbrev pub PlansNot : Refusal → Type 0
  PlansNot why = (why ≡ NoMemory) × (new.phase ≡ Ready) × ((w : World) → IsPublisherOf g old w → Leads g w [] [] new)

  -- Commands are not checked, and the publisher is as it was. They are several, and memory was refused, of which the world has no
  -- event; or the world refuses each event that submits them, with room or without.
  abbrev pub ChecksNot : List Command → Refusal → Type 0
  ChecksNot commands why = (new ≡ old)
      × (((why ≡ NoMemory) × (2 ≤ length commands))
      ⊎ ((event : Event) → commands ≡ asked event → (w : World) → IsPublisherOf g old w →
      ((step w event).outcome ≡ outcomes.Refused why) × IsPublisherOf g new (step w event).world))

  -- the calls that store the commands under way
  abbrev pub Commits : Type 0
  Commits = (new.phase ≡ Committed) × ((w : World) → IsPublisherOf g old w → Leads g w (commit_events old.commands) (commit_outcomes old.commands) new)

  abbrev pub FailsBy : StoreCall → Fate → State → Type 0
  FailsBy call fate left = (w : World) → IsPublisherOf g old w → LeadsTo g w (fail_events old.commands call fate) (fail_outcomes old.commands call) new left

  -- closed; each state that a crash may leave is that of a world whose event of the failed call has the fate that fits
  abbrev pub FailsToCommit : Refusal → Type 0
  FailsToCommit why = (new.phase ≡ Closed) × (new.commands ≡ []) × (call : StoreCall) × (why ≡ StoreFailed call)
      × (IsKnown g new.ours_first new.tables → (left : State) → MayLeave g new.tables left → (fate : Fate) × FailsBy call fate left)

  abbrev pub Shows : Type 0
  Shows = (new.phase ≡ Published)
      × ((w : World) → IsPublisherOf g old w → Leads g w (events.Publish ∷ []) (outcomes.Published (line_state new.line).count ∷ []) new)

  abbrev pub PublishesNot : Refusal → Type 0
  PublishesNot why = (why ≡ NotPublished) × (new ≡ record old { phase = Closed })
      × ((w : World) → IsPublisherOf g old w → Leads g w (events.PublishFail ∷ []) (outcomes.Refused why ∷ []) new)

  -- under the registry's lock it notes the version there; the lock is released, and the commands acknowledged
  abbrev pub Notes : RegistryState → RegistryState → Line → Type 0
  Notes before r told = (new.phase ≡ Ready)
      × ((w : World) → IsPublisherOf g old w → (r ≡ registry_after before w events.Note) × Leads g w note_events (note_outcomes told) new)

  -- ---- the calls with a domain: what they see under its lock is said of the world

  -- if the world has room
  abbrev pub Prepares : Event → Type 0
  Prepares event = (new.phase ≡ Prepared)
      × ((w : World) → IsPublisherOf g old w → has_room w ≡ true → Leads g w (event ∷ []) (outcomes.Prepared (last_number event) ∷ []) new)

  -- the world refuses what the event submits: for want of room if it has none; the publisher is as it was
  abbrev pub Refuses : Event → Refusal → Type 0
  Refuses event why = (new ≡ old) × ((w : World) → IsPublisherOf g old w → (why ≡ Busy → has_room w ≡ false) →
      ((step w event).outcome ≡ outcomes.Refused why) × IsPublisherOf g new (step w event).world)

  abbrev pub PreparesNot : Event → Refusal → Type 0
  PreparesNot event why = PlansNot why ⊎ Refuses event why

  abbrev pub Publishes : Line → Type 0
  Publishes told = (new.phase ≡ Ready) × ((w : World) → IsPublisherOf g old w → Leads g w publish_events (publish_outcomes (line_state told).count) new)

  -- if the world has room, all events of what this one submits
  abbrev pub Submits : Event → Line → Type 0
  Submits event told = (new.phase ≡ Ready)
      × ((w : World) → IsPublisherOf g old w → has_room w ≡ true →
      Leads g w (submit_events event) (submit_outcomes (asked event) (line_state told).count) new)

  abbrev pub SubmitFailsBy : Event → StoreCall → Fate → State → Type 0
  SubmitFailsBy event call fate left = (w : World) → IsPublisherOf g old w → has_room w ≡ true →
      LeadsTo g w (event ∷ fail_events (asked event) call fate) (outcomes.Prepared (last_number event) ∷ fail_outcomes (asked event) call) new left

  abbrev pub SubmitFails : Event → Refusal → Type 0
  SubmitFails event why = (new.phase ≡ Closed) × (new.commands ≡ []) × (call : StoreCall) × (why ≡ StoreFailed call)
      × (IsKnown g new.ours_first new.tables → (left : State) → MayLeave g new.tables left → (fate : Fate) × SubmitFailsBy event call fate left)

  -- stored, and its publication is refused
  abbrev pub SubmitUnpublished : Event → Refusal → Type 0
  SubmitUnpublished event why = (why ≡ NotPublished) × (new.phase ≡ Closed) × (new.commands ≡ asked event)
      × ((w : World) → IsPublisherOf g old w → has_room w ≡ true →
      Leads g w (unpublished_events event) (unpublished_outcomes (asked event) (last_number event)) new)

  abbrev pub SubmitsNot : Event → Refusal → Type 0
  SubmitsNot event why = PreparesNot event why ⊎ (SubmitFails event why ⊎ SubmitUnpublished event why)

-- ---- a file is adopted

module _ {S : Type 0} (g : Ghosts S) where
  -- a publisher and its new registry
  abbrev pub BeginsAt : Standing (Held S) → World → Type 0
  BeginsAt new w = AreBothOf g new (new_registry (line_state new.line)) w

  -- stopped between store calls and opened again
  abbrev pub OpensAgain : World → Standing (Held S) → Type 0
  OpensAgain w new =
      (outcomes_from w (events.Stop Lost ∷ events.Reopen ∷ []) ≡ outcomes.Stopped ∷ outcomes.Reopened (line_state new.line).count ∷ [])
      × BeginsAt new (run_from w (events.Stop Lost ∷ events.Reopen ∷ []))

  -- in each world whose disk these trees encode, whatever the publisher before was at
  abbrev pub AdoptsAgain : Trees → Standing (Held S) → Type 0
  AdoptsAgain trees new = (new.phase ≡ Ready) × ((old : Standing (Held S)) (w : World) → IsPublisherOf g old w → Spells trees w.disk → OpensAgain w new)

  -- stopped within this store call, whatever lookers did before it, and opened again
  abbrev pub StopsBy : Standing (Held S) → Standing (Held S) → StoreCall → Fate → Type 0
  StopsBy old new call fate = (new.phase ≡ Ready) × ((w : World) → IsPublisherOf g old w → (all : List Event) → own all ≡ stop_events old.commands call fate →
      (own_outcomes w all ≡ stop_outcomes old.commands call)
      × ((step (run_from w all) events.Reopen).outcome ≡ outcomes.Reopened (line_state new.line).count)
      × BeginsAt new (step (run_from w all) events.Reopen).world)

  -- The commit of prepared commands was stopped in this store call, which left this connection.
  pub record IsCutShort (old : Standing (Held S)) (call : StoreCall) (now : Held S) : Type 0 where
    pub prepared : old.phase ≡ Prepared
    pub storable : All IsStorable old.commands
    pub accepted : IsAccepted (line_state old.line) old.commands
    pub stops : AllStoppedIn g (changes_of (line_state old.line) old.commands) ((line_state old.line).count + length old.commands) old.tables call now

  -- in each world of a publisher whose commit was stopped there, and whose file is one that this may leave
  abbrev pub AdoptsStopped : Trees → Standing (Held S) → Type 0
  AdoptsStopped trees new = (old : Standing (Held S)) (call : StoreCall) (now : Held S) → Stands g old → IsCutShort old call now → IsKnown g old.ours_first now
      → (state g now).may_leave trees → (fate : Fate) × StopsBy old new call fate
