-- Fields of a world that an event leaves as they are.
use Rattle.std.proofs.Common.{◌≡◌, ℕ, ◌+◌, ◌++◌, Bool, true, false, List, [], ◌∷◌, Option, Some, None, length, replicate, take, refl, cond, arith}
use Rattle.prt_refusals.specs.declared.refusal.Refusal.{Refusal}
use Rattle.prt_refusals.specs.declared.refusal.StoreCall.TheVariants as calls
use Rattle.prt_command.specs.declared.request.Command.{Command}
use Rattle.prt_grace.specs.declared.limits.TheConstants.{PLACES}
use Rattle.prt_version.specs.Accepted.{refusal_all}
use Rattle.prt_version.specs.Change.{fold}
use Rattle.prt_version.specs.State.{State}
use Rattle.prt_replay.specs.World as world
use Rattle.prt_replay.specs.World.{Phase as Moment, LookerState, Step, World, durable, has_room, kept_versions, looker_state, offline, online, published_version, step}
use Rattle.prt_replay.specs.declared.event.Event.{Event}
use Rattle.prt_replay.specs.declared.event.Event.TheVariants as events
use Rattle.prt_replay.specs.declared.event.Fate.{Fate}
use Rattle.std.specs.Prelude.{slice_set}
use Rattle.prt_laws.specs.Events.{AsksSome}

-- commands are checked or stored, or that fails
abbrev pub is_storing : Event → Bool
is_storing (events.Submit command) = true
is_storing (events.SubmitAll commands) = true
is_storing events.Call = true
is_storing (events.Fail fate) = true
is_storing events.PublishFail = true
is_storing event = false

pub asks_storing : (event : Event) → AsksSome event → is_storing event ≡ true
asks_storing (events.Submit command) some = refl
asks_storing (events.SubmitAll commands) some = refl
asks_storing event some = absurd (omega (arith, some))

-- it records an acknowledgement or an answer
abbrev pub is_record : Event → Bool
is_record events.Ack = true
is_record (events.Look looker packet) = true
is_record event = false

module _ {X : Type 0} (f : World → X) where
  abbrev pub Keeps : World → Step → Type 0
  Keeps w s = f s.world ≡ f w

  pub unless_keeps : (w : World) (s : Step) (b : Bool) → Keeps w s → Keeps w (cond b (world.unmet w) s)
  unless_keeps w s true h = refl
  unless_keeps w s false h = h

  module _ (apart : (w : World) (accepted last : List Command) (disk pending : State) (moment : Moment) → f (record w { accepted = accepted; last = last; disk = disk; pending = pending; phase = moment }) ≡ f w) where
    prepare_keeps : (w : World) (commands : List Command) (why : Option Refusal) (room : Bool) → Keeps w (world.prepare w commands why room)
    prepare_keeps w commands (Some why) room = refl
    prepare_keeps w commands None true = apart w w.accepted w.last w.disk w.pending (world.Prepared commands 0 calls.Begin)
    prepare_keeps w commands None false = refl

    submit_keeps : (w : World) (commands : List Command) (moment : Moment) → Keeps w (world.submit w commands moment)
    submit_keeps w [] moment = refl
    submit_keeps w (first ∷ more) world.Ready = prepare_keeps w (first ∷ more) (refusal_all (published_version w) (first ∷ more)) (has_room w)
    submit_keeps w (first ∷ more) moment = refl

    call_keeps : (w : World) (moment : Moment) → Keeps w (world.call w moment)
    call_keeps w (world.Prepared commands done calls.Begin) = apart w (w.accepted ++ commands) commands w.disk w.disk (world.Prepared commands 0 calls.Write)
    call_keeps w (world.Prepared commands done calls.Write) =
        apart w w.accepted w.last w.disk (world.with_count w.disk.count (fold w.disk (take (done + 1) commands))) (world.Prepared commands (done + 1) (world.call_after (done + 1) (length commands)))
    call_keeps w (world.Prepared commands done calls.Count) = apart w w.accepted w.last w.disk (world.with_count (w.disk.count + length commands) w.pending) (world.Prepared commands (length commands) calls.Commit)
    call_keeps w (world.Prepared commands done calls.Commit) = apart w w.accepted w.last w.pending w.pending (world.Committed commands)
    call_keeps w moment = refl

    fail_keeps : (w : World) (fate : Fate) (moment : Moment) → Keeps w (world.fail w fate moment)
    fail_keeps w fate (world.Prepared commands done next) =
        let left : State = world.stopped w fate (world.Prepared commands done next) in
        apart w w.accepted w.last left left world.Closed
    fail_keeps w fate moment = refl

    unshown_keeps : (w : World) (moment : Moment) → Keeps w (world.fail_publication w moment)
    unshown_keeps w (world.Committed commands) = apart w w.accepted w.last w.disk w.pending world.Closed
    unshown_keeps w moment = refl

    pub storing_keeps : (w : World) (event : Event) → is_storing event ≡ true → Keeps w (step w event)
    storing_keeps w (events.Submit command) is = submit_keeps w (command ∷ []) w.phase
    storing_keeps w (events.SubmitAll commands) is = submit_keeps w commands w.phase
    storing_keeps w events.Call is = call_keeps w w.phase
    storing_keeps w (events.Fail fate) is = fail_keeps w fate w.phase
    storing_keeps w events.PublishFail is = unshown_keeps w w.phase
    storing_keeps w event is = absurd cc

  module _ (apart : (w : World) (accepted last : List Command) (disk pending : State) (moment : Moment) (published noted : ℕ) (versions : List State) (lookers : List LookerState)
      → f (record w { accepted = accepted; last = last; disk = disk; pending = pending; phase = moment; published = published; noted = noted; versions = versions; lookers = lookers }) ≡ f w) where
    seat_keeps : (w : World) (at : ℕ) (state : LookerState) → f (world.with_looker w at state) ≡ f w
    seat_keeps w at state = apart w w.accepted w.last w.disk w.pending w.phase w.published w.noted w.versions (slice_set w.lookers at state)

    publish_keeps : (w : World) (moment : Moment) → Keeps w (world.publish w moment)
    publish_keeps w (world.Committed commands) = apart w w.accepted w.last w.disk w.pending (world.Published commands) (durable w) w.noted (w.versions ++ fold (published_version w) commands ∷ []) w.lookers
    publish_keeps w moment = refl

    note_keeps : (w : World) (moment : Moment) → Keeps w (world.note w moment)
    note_keeps w (world.Published commands) = apart w w.accepted w.last w.disk w.pending (world.Noted commands) w.published w.published w.versions w.lookers
    note_keeps w moment = refl

    reopened_keeps : (w : World) → f (world.reopened w) ≡ f w
    reopened_keeps w = apart w (take (durable w) w.accepted) [] w.disk w.disk world.Ready (durable w) (durable w) (w.disk ∷ []) (replicate PLACES offline)

    reopen_keeps : (w : World) (moment : Moment) → Keeps w (world.reopen w moment)
    reopen_keeps w world.Closed = reopened_keeps w
    reopen_keeps w world.Stopped = reopened_keeps w
    reopen_keeps w moment = refl

    online_keeps : (w : World) (at : ℕ) (state : LookerState) → Keeps w (world.go_online w at state)
    online_keeps w at offline = seat_keeps w at (online w.noted None)
    online_keeps w at (online announced held) = refl

    fetch_keeps : (w : World) (at : ℕ) (state : LookerState) → Keeps w (world.fetch w at state)
    fetch_keeps w at offline = refl
    fetch_keeps w at (online announced held) = seat_keeps w at (online announced (Some w.published))

    announce_keeps : (w : World) (at : ℕ) (state : LookerState) → Keeps w (world.announce w at state)
    announce_keeps w at (online announced (Some held)) = seat_keeps w at (online held (Some held))
    announce_keeps w at state = refl

    offline_keeps : (w : World) (at : ℕ) (state : LookerState) → Keeps w (world.go_offline w at state)
    offline_keeps w at offline = refl
    offline_keeps w at (online announced held) = seat_keeps w at offline

    reclaim_keeps : (w : World) → Keeps w (world.reclaim w)
    reclaim_keeps w = apart w w.accepted w.last w.disk w.pending w.phase w.published w.noted (kept_versions w) w.lookers

    stop_keeps : (w : World) (fate : Fate) → Keeps w (world.stop w fate)
    stop_keeps w fate =
        let left : State = world.stopped w fate w.phase in
        apart w w.accepted w.last left left world.Stopped w.published w.noted w.versions w.lookers

    pub most_keep : (w : World) (event : Event) → is_record event ≡ false → Keeps w (step w event)
    most_keep w events.Publish is = publish_keeps w w.phase
    most_keep w events.Note is = note_keeps w w.phase
    most_keep w events.Ack is = absurd cc
    most_keep w (events.Online at) is = unless_keeps w (world.go_online w at (looker_state w at)) (world.is_stopped w.phase) (online_keeps w at (looker_state w at))
    most_keep w (events.Fetch at) is = unless_keeps w (world.fetch w at (looker_state w at)) (world.is_stopped w.phase) (fetch_keeps w at (looker_state w at))
    most_keep w (events.Announce at) is = unless_keeps w (world.announce w at (looker_state w at)) (world.is_stopped w.phase) (announce_keeps w at (looker_state w at))
    most_keep w (events.Offline at) is = unless_keeps w (world.go_offline w at (looker_state w at)) (world.is_stopped w.phase) (offline_keeps w at (looker_state w at))
    most_keep w (events.Look at packet) is = absurd cc
    most_keep w events.Reclaim is = unless_keeps w (world.reclaim w) (world.is_stopped w.phase) (reclaim_keeps w)
    most_keep w (events.Stop fate) is = unless_keeps w (world.stop w fate) (world.is_stopped w.phase) (stop_keeps w fate)
    most_keep w events.Reopen is = reopen_keeps w w.phase
    most_keep w event is = storing_keeps (λ w accepted last disk pending moment. apart w accepted last disk pending moment w.published w.noted w.versions w.lookers) w event refl
