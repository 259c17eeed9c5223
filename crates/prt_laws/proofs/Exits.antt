-- The exits of a publisher's calls, and the events that match them.
use Rattle.std.proofs.Common.{◌≡◌, ◌⊎◌, inl, inr, ℕ, ◌+◌, ◌<◌, ◌≤◌, Bool, true, false, arith, List, [], ◌∷◌, ◌++◌, refl, sym, ap, ◌∙◌, subst, cond}
use Rattle.sqlite.specs.Held.{Held}
use Rattle.sqlite.specs.Store.{Ghosts}
use Rattle.prt_refusals.specs.declared.refusal.Refusal.{Refusal}
use Rattle.prt_refusals.specs.declared.refusal.Refusal.TheVariants as refusals
use Rattle.prt_refusals.specs.declared.refusal.StoreCall.{StoreCall}
use Rattle.prt_refusals.specs.declared.refusal.StoreCall.TheVariants as calls
use Rattle.prt_command.specs.declared.request.Command.{Command}
use Rattle.prt_published.specs.Line.{Line, grown_by, line_state}
use Rattle.prt_store.specs.Exits.{IsKnown, IsStored, MayLeave}
use Rattle.prt_publisher.specs.Standing.{Standing, Stands}
use Rattle.prt_publisher.specs.declared.phase.Phase.{Phase}
use Rattle.prt_publisher.specs.declared.phase.Phase.TheVariants.{Ready, Admitted, Prepared, Committed, Published, Closed}
use Rattle.prt_version.specs.Accepted.{IsAccepted}
use Rattle.prt_version.specs.Change.{fold}
use Rattle.prt_version.specs.State.{State}
use Rattle.prt_replay.specs.World as world
use Rattle.prt_replay.specs.World.{Phase as Moment, LookerState, Step, World, acknowledge, call_after, has_room, is_stopped, published_version, reclaim, run_from, step, unmet}
use Rattle.prt_replay.specs.declared.event.Event.{Event}
use Rattle.prt_replay.specs.declared.event.Event.TheVariants as events
use Rattle.prt_replay.specs.declared.event.Fate.{Fate}
use Rattle.prt_replay.specs.declared.event.Fate.TheVariants.{Kept, Lost}
use Rattle.prt_replay.specs.declared.outcome.Outcome.{Outcome}
use Rattle.prt_replay.specs.declared.outcome.Outcome.TheVariants as outcomes
use Rattle.prt_laws.specs.Laws.{DeclinesBy, FailsBy}
use Rattle.prt_laws.specs.Spots.{IsAt, Spot}
use Rattle.prt_laws.specs.Events.{AsksSome, asked, commit_events, commit_outcomes, events_before, fail_events, fail_outcomes, own, own_outcomes, note_events, note_outcomes, outcomes_before, write_events, write_outcomes}
use Rattle.prt_laws.specs.Publishers.{HasDisk, Leads, SawRoom, AreBothOf, IsPublisherOf, moment_of}
use Rattle.prt_laws.specs.Registries.{IsRegistryOf, noted_at, registry_after}
use Rattle.prt_grace.specs.Registry.{RegistryState, noted_by, reclaimed}
use Rattle.prt_grace.specs.declared.limits.TheConstants.{MOST_RETIRED}
use Rattle.prt_laws.proofs.Between.{is_less, is_not_less, room_published, stays_there}
use Rattle.prt_laws.proofs.Keeping.{asks_storing, is_storing, storing_keeps}
use Rattle.prt_laws.proofs.Registering.{registers_reclaimed, room_is}
use Rattle.std.specs.Prelude.{nat_lt, length}
use Rattle.prt_replay.proofs.Phases.{Phased}
use Rattle.prt_laws.proofs.Steps.{Moves, acknowledges, begins, busy, commits, counts, disk_before, keeps, loses, notes, phased_of, publishes, publishes_not, takes, writes}
use Rattle.prt_laws.proofs.Woven.{Goes, woven}

-- ---- lists of events

abbrev pub spot : Line → State → Moment → Spot
spot line disk moment = record { line = line; disk = disk; moment = moment }

pub goes_on : (list : List Event) (shown : List Outcome) (rest : List Event) (others : List Outcome) (first between last : Spot) → Goes first list shown between → Goes between rest others last → Goes first (list ++ rest) (shown ++ others) last
goes_on [] [] rest others first between last g h = subst (λ (s : Spot). Goes s rest others last) (sym g) h
goes_on (event ∷ list) (o ∷ shown) rest others first between last g h = (g.0, g.1, goes_on list shown rest others g.0 between last g.2 h)
goes_on [] (o ∷ shown) rest others first between last g h = absurd g
goes_on (event ∷ list) [] rest others first between last g h = absurd g

module _ (line : Line) (disk : State) (commands : List Command) where
  abbrev before : ℕ → StoreCall → Spot
  before done call = spot line disk (world.Prepared commands done call)

  abbrev next : State
  next = fold (line_state line) commands

  -- how many commands' rows are written at this call
  abbrev pub written_at : StoreCall → ℕ
  written_at calls.Begin = 0
  written_at calls.Write = 0
  written_at calls.Count = length commands
  written_at calls.Commit = length commands

  -- the first of these writes, and where the world is after it
  abbrev between : ℕ → Spot
  between done = before (done + 1) (call_after (done + 1) (length commands))

  between_by : (done : ℕ) (b : Bool) → nat_lt (done + 1) (length commands) ≡ b → between done ≡ before (done + 1) (cond b calls.Write calls.Count)
  between_by done b is = ap (λ b. before (done + 1) (cond b calls.Write calls.Count)) is

  -- the rows of each of the commands that are left are written
  write_goes : (left : List Command) (done : ℕ) → 1 ≤ length left → length commands ≡ done + length left → Goes (before done calls.Write) (write_events left) (write_outcomes left) (before (length commands) calls.Count)
  write_goes [] done some is = absurd (omega (arith, some))
  write_goes (command ∷ []) done some is =
      let all : done + 1 ≡ length commands = omega (arith, is) in
      (between done, λ w h. writes line disk w commands done h, between_by done false (is_not_less (done + 1) (length commands) (omega (arith, is))) ∙ ap (λ n. before n calls.Count) all)
  write_goes (command ∷ second ∷ more) done some is =
      let same = between_by done true (is_less (done + 1) (length commands) (omega (arith, is))) in
      let rest = write_goes (second ∷ more) (done + 1) (omega arith) (omega (arith, is)) in
      (between done, λ w h. writes line disk w commands done h, subst (λ (s : Spot). Goes s (write_events (second ∷ more)) (write_outcomes (second ∷ more)) (before (length commands) calls.Count)) (sym same) rest)

  module _ (some : 1 ≤ length commands) where
    all_written : Goes (before 0 calls.Write) (write_events commands) (write_outcomes commands) (before (length commands) calls.Count)
    all_written = write_goes commands 0 some (omega arith)

    pub before_goes : (call : StoreCall) → Goes (before 0 calls.Begin) (events_before commands call) (outcomes_before commands call) (before (written_at call) call)
    before_goes calls.Begin = refl
    before_goes calls.Write = (before 0 calls.Write, λ w h. begins line disk w commands 0 h, refl)
    before_goes calls.Count = (before 0 calls.Write, λ w h. begins line disk w commands 0 h, all_written)
    before_goes calls.Commit =
        let last = before (length commands) calls.Commit in
        let counted = before (length commands) calls.Count in (
          before 0 calls.Write,
          λ w h. begins line disk w commands 0 h,
          goes_on (write_events commands) (write_outcomes commands) (events.Call ∷ []) (outcomes.Called calls.Count ∷ []) (before 0 calls.Write) counted last all_written (last, λ w h. counts line disk w commands (length commands) h, refl),
        )

    -- and then this event
    pub then_goes : (call : StoreCall) (event : Event) (shown : Outcome) (last : Spot) → ((w : World) → IsAt (before (written_at call) call) w → Moves w event shown last)
        → Goes (before 0 calls.Begin) (events_before commands call ++ event ∷ []) (outcomes_before commands call ++ shown ∷ []) last
    then_goes call event shown last law = goes_on (events_before commands call) (outcomes_before commands call) (event ∷ []) (shown ∷ []) (before 0 calls.Begin) (before (written_at call) call) last (before_goes call) (last, law, refl)

    pub commit_goes : Goes (before 0 calls.Begin) (commit_events commands) (commit_outcomes commands) (spot line next (world.Committed commands))
    commit_goes = then_goes calls.Commit events.Call (outcomes.Called calls.Commit) (spot line next (world.Committed commands)) (λ w h. commits line disk w commands (length commands) h)

    pub lost_goes : (call : StoreCall) → Goes (before 0 calls.Begin) (fail_events commands call Lost) (fail_outcomes commands call) (spot line disk world.Closed)
    lost_goes call = then_goes call (events.Fail Lost) (outcomes.Refused (refusals.StoreFailed call)) (spot line disk world.Closed) (λ w h. loses line disk w commands (written_at call) call h)

    pub kept_goes : Goes (before 0 calls.Begin) (fail_events commands calls.Commit Kept) (fail_outcomes commands calls.Commit) (spot line next world.Closed)
    kept_goes = then_goes calls.Commit (events.Fail Kept) (outcomes.Refused (refusals.StoreFailed calls.Commit)) (spot line next world.Closed) (λ w h. keeps line disk w commands (length commands) h)

  pub publish_goes : Goes (spot line disk (world.Committed commands)) (events.Publish ∷ []) (outcomes.Published (line_state (grown_by line commands)).count ∷ []) (spot (grown_by line commands) disk (world.Published commands))
  publish_goes = (spot (grown_by line commands) disk (world.Published commands), λ w h. publishes line disk w commands h (room_published w line disk commands h), refl)

  pub publish_fails : Goes (spot line disk (world.Committed commands)) (events.PublishFail ∷ []) (outcomes.Refused refusals.NotPublished ∷ []) (spot line disk world.Closed)
  publish_fails = (spot line disk world.Closed, λ w h. publishes_not line disk w commands h, refl)

  pub note_goes : Goes (spot line disk (world.Published commands)) note_events (note_outcomes line) (spot line disk world.Ready)
  note_goes = (spot line disk (world.Noted commands), λ w h. notes line disk w commands h, (spot line disk world.Ready, λ w h. acknowledges line disk w commands h, refl))

  -- in a world that is with commands there are some
  pub some_prepared : (w : World) → IsAt (before 0 calls.Begin) w → 1 ≤ length commands
  some_prepared w h = (phased_of w (world.Prepared commands 0 calls.Begin) h.reached h.moment).2

  pub some_committed : (w : World) → IsAt (spot line disk (world.Committed commands)) w → 1 ≤ length commands
  some_committed w h = let phased : Phased w (world.Committed commands) = phased_of w (world.Committed commands) h.reached h.moment in phased.some

-- ---- worlds that a publisher stands for

one_call : (why : Refusal) (a b : StoreCall) → why ≡ refusals.StoreFailed a → why ≡ refusals.StoreFailed b → a ≡ b
one_call why a b first second = cc

-- what a registry stands for of a world: its numbers, its versions and its lookers
abbrev pub seen : World → ℕ × (ℕ × (List State × List LookerState))
seen w = (w.noted, (w.published, (w.versions, w.lookers)))

abbrev of_seen : ℕ × (ℕ × (List State × List LookerState)) → World → World
of_seen s v = record v { noted = s.0; published = s.1.0; versions = s.1.1.0; lookers = s.1.1.1 }

pub same_registers : (r : RegistryState) (w v : World) → seen v ≡ seen w → IsRegistryOf r w → IsRegistryOf r v
same_registers r w v same s =
    let there : IsRegistryOf r (of_seen (seen w) v) = record { noted = s.noted; below = s.below; all = s.all; told = s.told } in
    subst (λ t. IsRegistryOf r (of_seen t v)) (sym same) there

pub storing_registers : (r : RegistryState) (w : World) (event : Event) → is_storing event ≡ true → IsRegistryOf r w → IsRegistryOf r (step w event).world
storing_registers r w event is s = same_registers r w (step w event).world (storing_keeps seen (λ w accepted last disk pending moment. refl) w event is) s

pub asks_registers : (event : Event) → AsksSome event → (r : RegistryState) (w : World) → IsRegistryOf r w → IsRegistryOf r (step w event).world
asks_registers event some r w s = storing_registers r w event (asks_storing event some) s

ack_same : (w : World) (moment : Moment) → seen (acknowledge w moment).world ≡ seen w
ack_same w (world.Noted commands) = refl
ack_same w moment = refl

pub acknowledges_registers : (r : RegistryState) (w : World) → IsRegistryOf r w → IsRegistryOf r (step w events.Ack).world
acknowledges_registers r w s = same_registers r w (step w events.Ack).world (ack_same w w.phase) s

module _ {S : Type 0} (g : Ghosts S) where
  pub stands : (p : Standing (Held S)) (v : World) (disk : State) → IsAt (spot p.line disk (moment_of p.phase p.commands)) v → (IsKnown g p.ours_first p.tables → HasDisk g p.phase p.commands p.tables disk) → SawRoom p.phase v → IsPublisherOf g p v
  stands p v disk place stored room = record {
    place = record { reached = place.reached; moment = place.moment; disk = refl; shown = place.shown; told = place.told; room = place.room };
    stored = λ known. subst (λ (d : State). HasDisk g p.phase p.commands p.tables d) (sym place.disk) (stored known);
    room = room;
  }

  -- closed over commands that are stored and not published
  pub closed_disk : (commands : List Command) (tables : Held S) (disk : State) → 1 ≤ length commands → IsStored g tables disk → HasDisk g Closed commands tables disk
  closed_disk [] tables disk some stored = absurd (omega (arith, some))
  closed_disk (command ∷ commands) tables disk some stored = stored

  module _ (old new : Standing (Held S)) (w : World) (s : IsPublisherOf g old w) where
    -- the place of its world, by its phase
    pub place_in : (phase : Phase) → old.phase ≡ phase → IsAt (spot old.line w.disk (moment_of phase old.commands)) w
    place_in phase is = subst (λ (p : Phase). IsAt (spot old.line w.disk (moment_of p old.commands)) w) is s.place

    pub stored_in : (phase : Phase) → old.phase ≡ phase → IsKnown g old.ours_first old.tables → HasDisk g phase old.commands old.tables w.disk
    stored_in phase is known = subst (λ (p : Phase). HasDisk g p old.commands old.tables w.disk) is (s.stored known)

    -- ---- plan

    pub planned : (event : Event) → AsksSome event → old.phase ≡ Admitted → new ≡ record old { phase = Prepared; commands = asked event } → IsAccepted (line_state old.line) (asked event)
        → ((step w event).outcome ≡ outcomes.Prepared ((line_state old.line).count + length (asked event))) × IsPublisherOf g new (step w event).world
    planned event some phase is allowed =
        let room : has_room w ≡ true = subst (λ (p : Phase). SawRoom p w) phase s.room in
        let m = takes old.line w.disk w event some allowed room (place_in Admitted phase) in
        let v : World = (step w event).world in
        (m.0, subst (λ (p : Standing (Held S)). IsPublisherOf g p v) (sym is) (stands (record old { phase = Prepared; commands = asked event }) v w.disk m.1 (stored_in Admitted phase) tt))

    pub not_planned : old.phase ≡ Admitted → new ≡ record old { phase = Ready; commands = [] } → IsPublisherOf g new w
    not_planned phase is = subst (λ (p : Standing (Held S)). IsPublisherOf g p w) (sym is) (stands (record old { phase = Ready; commands = [] }) w w.disk (place_in Admitted phase) (stored_in Admitted phase) tt)

    pub still : (v : World) → new ≡ old → IsAt (spot old.line w.disk (moment_of old.phase old.commands)) v → SawRoom old.phase v → IsPublisherOf g new v
    still v is place room = subst (λ (p : Standing (Held S)). IsPublisherOf g p v) (sym is) (stands old v w.disk place s.stored room)

    -- ---- commit

    pub committed : old.phase ≡ Prepared → new ≡ record old { phase = Committed; tables = new.tables } → Stands g new → Leads g w (commit_events old.commands) (commit_outcomes old.commands) new
    committed phase is kept all e =
        let commands = old.commands in
        let next : State = fold (line_state old.line) commands in
        let place = place_in Prepared phase in
        let first = spot old.line w.disk (world.Prepared commands 0 calls.Begin) in
        let r = woven all (commit_events commands) (commit_outcomes commands) first (spot old.line next (world.Committed commands)) w e (commit_goes old.line w.disk commands (some_prepared old.line w.disk commands w place)) place in
        let held : IsKnown g old.ours_first new.tables → IsStored g new.tables next = subst (Stands g) is kept in
        (r.0, subst (λ (p : Standing (Held S)). IsPublisherOf g p (run_from w all)) (sym is) (stands (record old { phase = Committed; tables = new.tables }) (run_from w all) next r.1 held tt))

    -- ---- publish

    pub published : old.phase ≡ Committed → (new ≡ record old { phase = Published; line = new.line }) × (new.line ≡ grown_by old.line old.commands) → Leads g w (events.Publish ∷ []) (outcomes.Published (line_state new.line).count ∷ []) new
    published phase ok all e =
        let commands = old.commands in
        let line : Line = grown_by old.line commands in
        let r = woven all (events.Publish ∷ []) (outcomes.Published (line_state line).count ∷ []) (spot old.line w.disk (world.Committed commands)) (spot line w.disk (world.Published commands)) w e (publish_goes old.line w.disk commands) (place_in Committed phase) in
        let there : IsAt (spot new.line w.disk (world.Published commands)) (run_from w all) = subst (λ (l : Line). IsAt (spot l w.disk (world.Published commands)) (run_from w all)) (sym ok.1) r.1 in
        (r.0 ∙ ap (λ (l : Line). outcomes.Published (line_state l).count ∷ []) (sym ok.1), subst (λ (p : Standing (Held S)). IsPublisherOf g p (run_from w all)) (sym ok.0) (stands (record old { phase = Published; line = new.line }) (run_from w all) w.disk there (stored_in Committed phase) tt))

    pub not_published : old.phase ≡ Committed → new ≡ record old { phase = Closed } → Leads g w (events.PublishFail ∷ []) (outcomes.Refused refusals.NotPublished ∷ []) new
    not_published phase is all e =
        let commands = old.commands in
        let place = place_in Committed phase in
        let r = woven all (events.PublishFail ∷ []) (outcomes.Refused refusals.NotPublished ∷ []) (spot old.line w.disk (world.Committed commands)) (spot old.line w.disk world.Closed) w e (publish_fails old.line w.disk commands) place in
        let stored : IsKnown g old.ours_first old.tables → HasDisk g Closed commands old.tables w.disk = λ known. closed_disk commands old.tables w.disk (some_committed old.line w.disk commands w place) (stored_in Committed phase known) in
        (r.0, subst (λ (p : Standing (Held S)). IsPublisherOf g p (run_from w all)) (sym is) (stands (record old { phase = Closed }) (run_from w all) w.disk r.1 stored tt))

    -- ---- note, whatever the registry is

    pub noted_on : old.phase ≡ Published → new ≡ record old { phase = Ready; commands = [] } → Leads g w note_events (note_outcomes old.line) new
    noted_on phase is all e =
        let r = woven all note_events (note_outcomes old.line) (spot old.line w.disk (world.Published old.commands)) (spot old.line w.disk world.Ready) w e (note_goes old.line w.disk old.commands) (place_in Published phase) in
        (r.0, subst (λ (p : Standing (Held S)). IsPublisherOf g p (run_from w all)) (sym is) (stands (record old { phase = Ready; commands = [] }) (run_from w all) w.disk r.1 (stored_in Published phase) tt))

    -- and under the registry's lock
    pub noted : (before r : RegistryState) → old.phase ≡ Published → new ≡ record old { phase = Ready; commands = [] } → r ≡ noted_by before (line_state old.line)
        → (r ≡ registry_after before w events.Note) × Leads g w note_events (note_outcomes old.line) new
    noted before r phase is registry = (registry ∙ ap (noted_by before) (sym s.place.shown) ∙ ap (noted_at before (published_version w)) (sym (place_in Published phase).moment), noted_on phase is)

  -- ---- the last of the store calls

  -- One fails there, or everything stops: what is left is the published state or, within the commit call alone, the one after the commands. It is on disk in the world of the fate that fits.
  pub ends_at : (old : Standing (Held S)) → old.phase ≡ Prepared → (ends : Fate → Event) (shown : StoreCall → Outcome) (moment : Moment)
      → (lost : (line : Line) (disk : State) → 1 ≤ length old.commands → (call : StoreCall) → Goes (spot line disk (world.Prepared old.commands 0 calls.Begin)) (events_before old.commands call ++ ends Lost ∷ []) (outcomes_before old.commands call ++ shown call ∷ []) (spot line disk moment))
      → (kept : (line : Line) (disk : State) → 1 ≤ length old.commands → Goes (spot line disk (world.Prepared old.commands 0 calls.Begin)) (events_before old.commands calls.Commit ++ ends Kept ∷ []) (outcomes_before old.commands calls.Commit ++ shown calls.Commit ∷ []) (spot line (fold (line_state line) old.commands) moment))
      → (call : StoreCall) (left : State) → (left ≡ line_state old.line) ⊎ ((call ≡ calls.Commit) × (left ≡ fold (line_state old.line) old.commands))
      → (fate : Fate) × ((w : World) → IsPublisherOf g old w → (all : List Event) → own all ≡ events_before old.commands call ++ ends fate ∷ [] → (own_outcomes w all ≡ outcomes_before old.commands call ++ shown call ∷ []) × IsAt (spot old.line left moment) (run_from w all))
  ends_at old phase ends shown moment lost kept call left (inl same) = (
    Lost,
    λ w s all e.
        let place = place_in old old w s Prepared phase in
        let goes = lost old.line w.disk (some_prepared old.line w.disk old.commands w place) call in
        let r = woven all (events_before old.commands call ++ ends Lost ∷ []) (outcomes_before old.commands call ++ shown call ∷ []) (spot old.line w.disk (world.Prepared old.commands 0 calls.Begin)) (spot old.line w.disk moment) w e goes place in
        (r.0, subst (λ (d : State). IsAt (spot old.line d moment) (run_from w all)) (disk_before old.line w.disk w old.commands 0 place ∙ sym same) r.1),
  )
  ends_at old phase ends shown moment lost kept call left (inr more) = (
    Kept,
    λ w s all e.
        let place = place_in old old w s Prepared phase in
        let next : State = fold (line_state old.line) old.commands in
        let e' : own all ≡ events_before old.commands calls.Commit ++ ends Kept ∷ [] = e ∙ ap (λ (k : StoreCall). events_before old.commands k ++ ends Kept ∷ []) more.0 in
        let goes = kept old.line w.disk (some_prepared old.line w.disk old.commands w place) in
        let r = woven all (events_before old.commands calls.Commit ++ ends Kept ∷ []) (outcomes_before old.commands calls.Commit ++ shown calls.Commit ∷ []) (spot old.line w.disk (world.Prepared old.commands 0 calls.Begin)) (spot old.line next moment) w e' goes place in
        (r.0 ∙ ap (λ (k : StoreCall). outcomes_before old.commands k ++ shown k ∷ []) (sym more.0), subst (λ (d : State). IsAt (spot old.line d moment) (run_from w all)) (sym more.1) r.1),
  )

  module _ (old new : Standing (Held S)) where
    -- what a failed commit may leave is the published state or, if the commit call failed, the one after the commands
    abbrev pub Leaves : Refusal → Type 0
    Leaves why = IsKnown g new.ours_first new.tables → (left : State) → MayLeave g new.tables left → (left ≡ line_state old.line) ⊎ ((why ≡ refusals.StoreFailed calls.Commit) × (left ≡ fold (line_state old.line) old.commands))

    pub failed : old.phase ≡ Prepared → new ≡ record old { phase = Closed; commands = []; tables = new.tables } → (why : Refusal) → (call : StoreCall) → why ≡ refusals.StoreFailed call → Leaves why
        → IsKnown g new.ours_first new.tables → (left : State) → MayLeave g new.tables left → (fate : Fate) × FailsBy g old new call fate left
    failed phase is why call why_is leaves known left may =
        let either = elim (leaves known left may) as (λ _. (left ≡ line_state old.line) ⊎ ((call ≡ calls.Commit) × (left ≡ fold (line_state old.line) old.commands))) [
          | inl same ↦ inl same
          | inr more ↦ inr (one_call why call calls.Commit why_is more.0, more.1)
        ] in
        let at = ends_at old phase (λ fate. events.Fail fate) (λ k. outcomes.Refused (refusals.StoreFailed k)) world.Closed (λ line disk some k. lost_goes line disk old.commands some k) (λ line disk some. kept_goes line disk old.commands some) call left either in (
          at.0,
          λ w s all e.
              let r = at.1 w s all e in
              let closed = stands (record old { phase = Closed; commands = []; tables = new.tables }) (run_from w all) left r.1 (λ _. may) tt in
              (r.0, subst (λ (p : Standing (Held S)). IsPublisherOf g p (run_from w all)) (sym is) closed, r.1.disk),
        )

  -- ---- under the registry's lock

  module _ (old new : Standing (Held S)) (before r : RegistryState) (w : World) (s : IsPublisherOf g old w) (held : IsRegistryOf before w) where
    -- a reclaim, before anything
    reclaimed_at : (moment : Moment) → is_stopped moment ≡ false → IsAt (spot old.line w.disk moment) w → (IsAt (spot old.line w.disk moment) (step w events.Reclaim).world) × IsRegistryOf (reclaimed before) (step w events.Reclaim).world
    reclaimed_at moment going place =
        let is : step w events.Reclaim ≡ reclaim w =
        ap (λ m. cond (is_stopped m) (unmet w) (reclaim w)) place.moment ∙ ap (λ b. cond b (unmet w) (reclaim w)) going in
        (stays_there (spot old.line w.disk moment) w events.Reclaim refl place, subst (λ (t : Step). IsRegistryOf (reclaimed before) t.world) (sym is) (registers_reclaimed before w place.reached held))

    -- and there is room then
    roomy : old.phase ≡ Ready → (r ≡ reclaimed before) × (length r.retired < MOST_RETIRED)
        → (IsAt (spot old.line w.disk world.Ready) (step w events.Reclaim).world) × IsRegistryOf r (step w events.Reclaim).world × (has_room (step w events.Reclaim).world ≡ true)
    roomy ready room =
        let there = reclaimed_at world.Ready refl (place_in old new w s Ready ready) in
        let v : World = (step w events.Reclaim).world in
        let registers : IsRegistryOf r v = subst (λ (q : RegistryState). IsRegistryOf q v) (sym room.0) there.1 in
        (there.0, registers, room_is r v there.0.reached registers ∙ is_less (length r.retired) MOST_RETIRED room.1)

    pub admits : (commands : List Command) → new ≡ record old { phase = Admitted; commands = commands } → old.phase ≡ Ready → (r ≡ reclaimed before) × (length r.retired < MOST_RETIRED) → AreBothOf g new r (step w events.Reclaim).world
    admits commands is ready room =
        let there = roomy ready room in
        let v : World = (step w events.Reclaim).world in
        (subst (λ (p : Standing (Held S)). IsPublisherOf g p v) (sym is) (stands (record old { phase = Admitted; commands = commands }) v w.disk there.0 (stored_in old new w s Ready ready) there.2), there.1)

  -- ---- refused

  module _ (old new : Standing (Held S)) (same : new ≡ old) (event : Event) (some : AsksSome event) where
    -- after that it is as it was
    pub as_it_was : (w v : World) → IsPublisherOf g old w → (phase : Phase) → old.phase ≡ phase → ((u : World) → SawRoom phase u) → IsAt (spot old.line w.disk (moment_of phase old.commands)) v → IsPublisherOf g new v
    as_it_was w v s phase is saw at =
        still old new w s v same (subst (λ (p : Phase). IsAt (spot old.line w.disk (moment_of p old.commands)) v) (sym is) at) (subst (λ (p : Phase). SawRoom p v) (sym is) (saw v))

    module _ (before r : RegistryState) where
      pub declines_full : (why : Refusal) → old.phase ≡ Ready → IsAccepted (line_state old.line) (asked event) → r ≡ reclaimed before → why ≡ refusals.Busy → MOST_RETIRED ≤ length r.retired → DeclinesBy g old new true before r event why
      declines_full why ready allowed is why_is full = (
        same,
        λ w h.
            let v : World = (step w events.Reclaim).world in
            let u : World = (step v event).world in
            let there = reclaimed_at old new before r w h.0 h.1 world.Ready refl (place_in old new w h.0 Ready ready) in
            let registers : IsRegistryOf r v = subst (λ (q : RegistryState). IsRegistryOf q v) (sym is) there.1 in
            let has : has_room v ≡ false = room_is r v there.0.reached registers ∙ is_not_less (length r.retired) MOST_RETIRED full in
            let m = busy old.line w.disk v event some allowed has there.0 in
            (m.0 ∙ ap outcomes.Refused (sym why_is), (as_it_was w u h.0 Ready ready (λ u. tt) m.1, asks_registers event some r v registers)),
      )
