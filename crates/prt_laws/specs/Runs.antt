-- Lists of exits of a publisher's calls, whatever lookers do between them, beside the world's events.
use Rattle.std.specs.Prelude.{◌≡◌, ◌⊎◌, ℕ, ◌≤◌, ◌++◌, Bool, true, false, List, [], ◌∷◌, length, map, None, slice_index_or}
use Rattle.std.specs.List.{AllByRecursion as Each}
use Rattle.sqlite.specs.Held.{Held, state}
use Rattle.sqlite.specs.Store.{Ghosts}
use Rattle.sqlite.specs.Tree.{Trees}
use Rattle.prt_refusals.specs.declared.refusal.Refusal.{Refusal}
use Rattle.prt_refusals.specs.declared.refusal.Refusal.TheVariants.{Busy, NoMemory, NotPublished, StoreFailed}
use Rattle.prt_refusals.specs.declared.refusal.StoreCall.{StoreCall}
use Rattle.prt_command.specs.declared.request.Command.{Command}
use Rattle.prt_published.specs.Line.{Line, line_state}
use Rattle.prt_grace.specs.Registry.{RegistryState, announced, new_registry, with_place}
use Rattle.prt_grace.specs.declared.place.PlaceState.{PlaceState}
use Rattle.prt_grace.specs.declared.place.PlaceState.TheVariants.{Free}
use Rattle.prt_publisher.specs.Exits.{TakesAll}
use Rattle.prt_publisher.specs.Standing.{Standing, Stands}
use Rattle.prt_publisher.specs.declared.phase.Phase.TheVariants.{Closed, Committed, Published}
use Rattle.prt_store.specs.Exits.{IsKnown, Spells}
use Rattle.prt_version.specs.State.{State}
use Rattle.prt_replay.specs.Durability.{IsAcknowledged, IsAnswered, IsDurable}
use Rattle.prt_replay.specs.World.{Ack, Lookup, World, has_room, run_from, start, step}
use Rattle.prt_replay.specs.declared.event.Event.{Event}
use Rattle.prt_replay.specs.declared.event.Event.TheVariants as events
use Rattle.prt_replay.specs.declared.outcome.Outcome.TheVariants as outcomes
use Rattle.prt_rule.specs.declared.packet.Packet.{Packet}
use Rattle.prt_version.specs.declared.answer.Answer.{Answer}
use Rattle.prt_replay.specs.declared.event.Fate.{Fate}
use Rattle.prt_replay.specs.declared.event.Fate.TheVariants.{Lost}
use Rattle.prt_laws.specs.Events.{AsksSome, acks_to, asked, commit_events, fail_events, is_lookers, own, publish_events, reclaim_events, stop_events}
use Rattle.prt_laws.specs.Events.{without_fate}
use Rattle.prt_laws.specs.Laws.{Admits, AdoptsAgain, BeginsAt, Commits, DeclinesBy, FailsBy, FailsToCommit, IsCutShort, Notes, PlansBy, PlansNot}
use Rattle.prt_laws.specs.Laws.{Prepares, Publishes, PublishesNot, Refuses, Shows, StopsBy, SubmitFails, SubmitFailsBy, SubmitUnpublished, Submits}
use Rattle.prt_laws.specs.Registries.{registry_after, registry_through}
use Rattle.prt_laws.specs.Publishers.{AreBothOf}

-- An exit of a step, or what comes between two steps. The list of one that makes store calls has what lookers do between them.
pub data Act : Type 0 where
  -- an event of a looker, or a reclaim
  beside : (event : Event) → Act
  -- a looker's answer
  looked : (looker : ℕ) → (packet : Packet) → (answer : Answer) → Act
  -- a place that announces nothing is taken or given up
  seated : (looker : ℕ) → (place : PlaceState) → Act
  admitted : Act
  declined : (event : Event) → (why : Refusal) → (reclaims : Bool) → Act
  planned : (event : Event) → Act
  unplanned : Act
  committed : (all : List Event) → Act
  failed : (call : StoreCall) → (fate : Fate) → (left : State) → (all : List Event) → Act
  shown : Act
  unshown : Act
  -- with the events that come after the note: the acknowledgement, and what lookers do around it
  noted : (commands : List Command) → (told : Line) → (more : List Event) → Act
  -- the calls with a domain, for what an event submits: one command, or those of a file
  prepared : (event : Event) → Act
  published : (commands : List Command) → (told : Line) → (all : List Event) → Act
  -- the one of a whole submission, with the events that come after its first
  submitted : (event : Event) → (told : Line) → (more : List Event) → Act
  refused : (event : Event) → (why : Refusal) → Act
  submit_failed : (event : Event) → (call : StoreCall) → (fate : Fate) → (left : State) → (more : List Event) → Act
  submit_unpublished : (event : Event) → (more : List Event) → Act
  -- everything stops between store calls, and a file with these trees is adopted
  adopted : (trees : Trees) → Act
  -- everything stops within this store call, and what that leaves is adopted
  stopped : (call : StoreCall) → (fate : Fate) → (all : List Event) → Act

-- what the world does
abbrev pub act_events : Act → List Event
act_events (beside event) = event ∷ []
act_events (looked looker packet answer) = events.Look looker packet ∷ []
act_events (seated looker place) = []
act_events admitted = events.Reclaim ∷ []
act_events (declined event why reclaims) = reclaim_events reclaims ++ event ∷ []
act_events (planned event) = event ∷ []
act_events unplanned = []
act_events (committed all) = all
act_events (failed call fate left all) = all
act_events shown = events.Publish ∷ []
act_events unshown = events.PublishFail ∷ []
act_events (noted commands told more) = events.Note ∷ more
act_events (prepared event) = event ∷ []
act_events (published commands told all) = all
act_events (submitted event told more) = event ∷ more
act_events (refused event why) = event ∷ []
act_events (submit_failed event call fate left more) = event ∷ more
act_events (submit_unpublished event more) = event ∷ more
act_events (adopted trees) = events.Stop Lost ∷ events.Reopen ∷ []
act_events (stopped call fate all) = all ++ events.Reopen ∷ []

abbrev pub events_of : List Act → List Event
events_of [] = []
events_of (act ∷ acts) = act_events act ++ events_of acts

-- the receipts that were given, for each of their commands
abbrev pub act_receipts : Act → List Ack
act_receipts (noted commands told more) = acks_to (line_state told).count commands
act_receipts (published commands told all) = acks_to (line_state told).count commands
act_receipts (submitted event told more) = acks_to (line_state told).count (asked event)
act_receipts act = []

abbrev pub receipts_of : List Act → List Ack
receipts_of [] = []
receipts_of (act ∷ acts) = act_receipts act ++ receipts_of acts

-- the answers that lookers gave
abbrev pub act_answers : Act → List Lookup
act_answers (looked looker packet answer) = record { packet = packet; answer = answer } ∷ []
act_answers act = []

abbrev pub answers_of : List Act → List Lookup
answers_of [] = []
answers_of (act ∷ acts) = act_answers act ++ answers_of acts

-- The same run, except for which fate each failure has.
pub record SameButFates (again acts : List Act) : Type 0 where
  pub events : map without_fate (events_of again) ≡ map without_fate (events_of acts)
  pub receipts : receipts_of again ≡ receipts_of acts
  pub answers : answers_of again ≡ answers_of acts

-- the five steps of commands that are acknowledged, from the event that submits them
abbrev pub step_acts : Event → Line → List Act
step_acts event told = admitted ∷ planned event ∷ committed (commit_events (asked event)) ∷ shown ∷ noted (asked event) told (events.Ack ∷ []) ∷ []

-- What a crash leaves is on disk in this world. It is a prefix of the accepted commands that lacks at most those that were
-- accepted last together. It has each command of a receipt under its number, and the version by which each of these answers
-- was given. So it has that of every answer of the world, also of one that was given while a call was under way.
pub record HoldsAll (w : World) (receipts : List Ack) (answers : List Lookup) (left : State) : Type 0 where
  pub is : w.disk ≡ left
  pub durable : IsDurable w
  pub acknowledged : Each (IsAcknowledged w) receipts
  pub answered : Each (IsAnswered w) answers
  pub all_answered : Each (IsAnswered w) w.answers

module _ {S : Type 0} (g : Ghosts S) where
  -- A crash may leave these trees of a file that is known. After a failed commit they encode the state that was chosen for
  -- the world.
  abbrev pub LeavesFile : Standing (Held S) → World → Trees → Type 0
  LeavesFile old w trees = IsKnown g old.ours_first old.tables × (state g old.tables).may_leave trees
      × (old.phase ≡ Closed → old.commands ≡ [] → Spells trees w.disk)

  -- The law of the call that has this exit. The registry changes under its lock alone: by a step that is handed it, by a
  -- looker's call, or when a place is taken or given up.
  abbrev pub Acts : Standing (Held S) → RegistryState → World → Act → Standing (Held S) → RegistryState → Type 0
  Acts old r w (beside event) new after = (is_lookers event ≡ true) × (new ≡ old) × (after ≡ registry_after r w event)
  Acts old r w (looked looker packet answer) new after = (new ≡ old) × (after ≡ r) × ((step w (events.Look looker packet)).outcome ≡ outcomes.Answered answer)
  Acts old r w (seated looker place) new after =
      (announced (slice_index_or r.places looker Free) ≡ None) × (announced place ≡ None) × (new ≡ old) × (after ≡ with_place r looker place)
  Acts old r w admitted new after = Admits g old new r after
  Acts old r w (declined event why reclaims) new after = AsksSome event × DeclinesBy g old new reclaims r after event why
  Acts old r w (planned event) new after = AsksSome event × (after ≡ r) × PlansBy g old new event
  Acts old r w unplanned new after = (after ≡ r) × PlansNot g old new NoMemory
  Acts old r w (committed all) new after = (own all ≡ commit_events old.commands) × (after ≡ registry_through r w all) × Commits g old new
  Acts old r w (failed call fate left all) new after =
      (own all ≡ fail_events old.commands call fate) × (after ≡ registry_through r w all) × FailsBy g old new call fate left
      × FailsToCommit g old new (StoreFailed call)
  Acts old r w shown new after = (after ≡ r) × Shows g old new
  Acts old r w unshown new after = (after ≡ r) × (old.phase ≡ Committed) × PublishesNot g old new NotPublished
  Acts old r w (noted commands told more) new after =
      (old.phase ≡ Published) × (old.commands ≡ commands) × (own more ≡ events.Ack ∷ []) × (mid : RegistryState)
      × (after ≡ registry_through mid (step w events.Note).world more) × Notes g old new r mid told
  Acts old r w (prepared event) new after = AsksSome event × (has_room w ≡ true) × (after ≡ r) × Prepares g old new event
  Acts old r w (published commands told all) new after =
      (own all ≡ publish_events) × (old.phase ≡ Committed) × (old.commands ≡ commands) × (after ≡ registry_through r w all) × Publishes g old new told
  Acts old r w (submitted event told more) new after =
      AsksSome event × (own more ≡ commit_events (asked event) ++ publish_events) × (has_room w ≡ true)
      × (after ≡ registry_through r w (event ∷ more)) × TakesAll old (asked event) × Submits g old new event told
  Acts old r w (refused event why) new after = AsksSome event × (why ≡ Busy → has_room w ≡ false) × (after ≡ r) × Refuses g old new event why
  Acts old r w (submit_failed event call fate left more) new after =
      AsksSome event × (own more ≡ fail_events (asked event) call fate) × (has_room w ≡ true)
      × (after ≡ registry_through r w (event ∷ more)) × SubmitFailsBy g old new event call fate left × SubmitFails g old new event (StoreFailed call)
  Acts old r w (submit_unpublished event more) new after =
      AsksSome event × (own more ≡ commit_events (asked event) ++ events.PublishFail ∷ []) × (has_room w ≡ true)
      × (after ≡ registry_through r w (event ∷ more)) × SubmitUnpublished g old new event NotPublished
  Acts old r w (adopted trees) new after = (after ≡ new_registry (line_state new.line)) × LeavesFile old w trees × AdoptsAgain g trees new
  Acts old r w (stopped call fate all) new after =
      (own all ≡ stop_events old.commands call fate) × (after ≡ new_registry (line_state new.line)) × StopsBy g old new call fate

  -- one after the other
  abbrev pub ActsAll : Standing (Held S) → RegistryState → World → List Act → Standing (Held S) → RegistryState → Type 0
  ActsAll old r w [] new after = (new ≡ old) × (after ≡ r)
  ActsAll old r w (act ∷ acts) new after =
      (mid : Standing (Held S)) × (between : RegistryState) × Acts old r w act mid between
      × ActsAll mid between (run_from w (act_events act)) acts new after

  -- ---- a submission by its steps

  -- One that is acknowledged is its five steps, from each world of the publisher and of the registry.
  abbrev pub Acknowledges : Standing (Held S) → RegistryState → Event → Line → Standing (Held S) → RegistryState → Type 0
  Acknowledges old r event told new after = (w : World) → AreBothOf g old r w → ActsAll old r w (step_acts event told) new after

  -- One that is not has no memory to be checked, if its commands are several, and nothing changes; or it is refused at
  -- once, or after a reclaim; or it has no memory then. Or it is stored, and its publication fails; or its commit fails.
  abbrev pub TakesNot : Standing (Held S) → RegistryState → Event → Refusal → Standing (Held S) → RegistryState → Type 0
  TakesNot old r event why new after = (w : World) → AreBothOf g old r w →
      ((why ≡ NoMemory) × (2 ≤ length (asked event)) × (new ≡ old) × (after ≡ r))
      ⊎ (((reclaims : Bool) × ActsAll old r w (declined event why reclaims ∷ []) new after)
      ⊎ (((why ≡ NoMemory) × ActsAll old r w (admitted ∷ unplanned ∷ []) new after)
      ⊎ (((why ≡ NotPublished) × ActsAll old r w (admitted ∷ planned event ∷ committed (commit_events (asked event)) ∷ unshown ∷ []) new after)
      ⊎ ((mid : Standing (Held S)) × ActsAll old r w (admitted ∷ planned event ∷ []) mid after × FailsToCommit g mid new why))))

  -- ---- the laws of every run

  -- A run leads to a world that the publisher and the registry stand for, which has acknowledged each receipt and nothing else.
  abbrev pub EveryRunStands : Type 0
  EveryRunStands = (acts : List Act) (old new : Standing (Held S)) (r after : RegistryState) (w : World) → AreBothOf g old r w → ActsAll old r w acts new after
      → AreBothOf g new after (run_from w (events_of acts)) × ((run_from w (events_of acts)).acks ≡ w.acks ++ receipts_of acts)

  -- Whatever file a crash may leave after a run on a new one encodes a state, which holds all that was acknowledged and
  -- answered in the world of the run's events. Once a commit has failed that is the world of the fate which fits.
  abbrev pub EveryRunLeaves : Type 0
  EveryRunLeaves = (acts : List Act) (old new : Standing (Held S)) (after : RegistryState) → BeginsAt g old start →
      ActsAll old (new_registry (line_state old.line)) start acts new after
      → Stands g new → IsKnown g new.ours_first new.tables → (trees : Trees) → (state g new.tables).may_leave trees
      → (left : State) × Spells trees left × (again : List Act) × SameButFates again acts
      × ActsAll old (new_registry (line_state old.line)) start again new after
      × HoldsAll (run_from start (events_of again)) (receipts_of acts) (answers_of acts) left

  -- And whichever file it leaves is adopted: the run goes on.
  abbrev pub EveryRunGoesOn : Type 0
  EveryRunGoesOn = (acts : List Act) (old new last : Standing (Held S)) (after : RegistryState) → BeginsAt g old start →
      ActsAll old (new_registry (line_state old.line)) start acts new after
      → Stands g new → IsKnown g new.ours_first new.tables → (trees : Trees) → (state g new.tables).may_leave trees → AdoptsAgain g trees last
      → (again : List Act) × SameButFates again acts
      × ActsAll old (new_registry (line_state old.line)) start (again ++ adopted trees ∷ []) last (new_registry (line_state last.line))

  -- If a commit is stopped within a store call after a run, whatever file a crash then leaves encodes a state that holds
  -- all of it too, before it is opened again.
  abbrev pub EveryStopLeaves : Type 0
  EveryStopLeaves = (acts : List Act) (old mid : Standing (Held S)) (after : RegistryState) → BeginsAt g old start →
      ActsAll old (new_registry (line_state old.line)) start acts mid after
      → Stands g mid → (call : StoreCall) (now : Held S) → IsCutShort g mid call now → IsKnown g mid.ours_first now → (trees : Trees) →
      (state g now).may_leave trees
      → (left : State) × Spells trees left × (fate : Fate)
      × ((all : List Event) → own all ≡ stop_events mid.commands call fate →
      HoldsAll (run_from start (events_of acts ++ all)) (receipts_of acts) (answers_of acts) left)
