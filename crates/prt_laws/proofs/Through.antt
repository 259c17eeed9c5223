-- A registry over a list of events.
use Rattle.std.proofs.Common.{◌≡◌, Bool, true, false, List, [], ◌∷◌, ◌++◌, Option, Some, None, refl, sym, ◌∙◌, ap, subst, cond, arith}
use Rattle.std.specs.List.{AllByRecursion as Each}
use Rattle.prt_refusals.specs.declared.refusal.Refusal.{Refusal}
use Rattle.prt_refusals.specs.declared.refusal.StoreCall.{StoreCall}
use Rattle.prt_refusals.specs.declared.refusal.StoreCall.TheVariants as calls
use Rattle.prt_command.specs.declared.request.Command.{Command}
use Rattle.prt_grace.specs.Registry.{RegistryState}
use Rattle.prt_version.specs.Accepted.{refusal_all}
use Rattle.prt_version.specs.Change.{fold}
use Rattle.prt_version.specs.State.{State}
use Rattle.prt_replay.specs.World as world
use Rattle.prt_replay.specs.World.{Phase as Moment, Step, World, has_room, published_version, run_from, start, step}
use Rattle.prt_replay.specs.declared.event.Event.{Event}
use Rattle.prt_replay.specs.declared.event.Event.TheVariants as events
use Rattle.prt_replay.specs.declared.event.Fate.{Fate}
use Rattle.prt_laws.specs.Events.{AsksSome, commit_events, fail_events, is_going, is_lookers, own}
use Rattle.prt_laws.specs.Registries.{EveryEventKeepsRegistry, RoomIsRoom, IsRegistryOf, noted_at, registry_after, registry_through}
use Rattle.prt_laws.specs.Spots.{HasRoom, IsAt, IsReached}
use Rattle.prt_laws.proofs.Woven.{calls_then, committed_then, by_own}
use Rattle.prt_laws.proofs.Between.{moment_stays, room_beside, room_published, room_stays}
use Rattle.prt_laws.proofs.Exits.{acknowledges_registers, spot, storing_registers}
use Rattle.prt_laws.proofs.Registering.{registers_beside, registers_noted, registers_published, room_is}
use Rattle.prt_laws.proofs.Steps.{line_at, placed, publishes, reached_run}

-- ---- after each event commands prepared, stored or published have their room, and a world that runs goes on except for a stop

abbrev Roomy : Step → Type 0
Roomy s = HasRoom s.world s.world.phase

abbrev Follows : World → Step → Type 0
Follows w s = Roomy s × (world.is_stopped w.phase ≡ false → world.is_stopped s.world.phase ≡ false)

prepare_follows : (w : World) (commands : List Command) (why : Option Refusal) (room : Bool) → has_room w ≡ room → HasRoom w w.phase → Follows w (world.prepare w commands why room)
prepare_follows w commands (Some why) room is h = (h, λ runs. runs)
prepare_follows w commands None true is h = (is, λ _. refl)
prepare_follows w commands None false is h = (h, λ runs. runs)

submit_follows : (w : World) (commands : List Command) (moment : Moment) → HasRoom w w.phase → Follows w (world.submit w commands moment)
submit_follows w [] moment h = (h, λ runs. runs)
submit_follows w (first ∷ more) world.Ready h = prepare_follows w (first ∷ more) (refusal_all (published_version w) (first ∷ more)) (has_room w) refl h
submit_follows w (first ∷ more) moment h = (h, λ runs. runs)

call_follows : (w : World) (moment : Moment) → w.phase ≡ moment → HasRoom w w.phase → Follows w (world.call w moment)
call_follows w (world.Prepared commands done calls.Begin) is h = (subst (HasRoom w) is h, λ _. refl)
call_follows w (world.Prepared commands done call) is h = (subst (HasRoom w) is h, λ _. refl)
call_follows w moment is h = (h, λ runs. runs)

fail_follows : (w : World) (fate : Fate) (moment : Moment) → HasRoom w w.phase → Follows w (world.fail w fate moment)
fail_follows w fate (world.Prepared commands done next) h = (tt, λ _. refl)
fail_follows w fate moment h = (h, λ runs. runs)

publish_follows : (w : World) (moment : Moment) → IsReached w → w.phase ≡ moment → HasRoom w w.phase → Follows w (world.publish w moment)
publish_follows w (world.Committed commands) reached is h = (room_published w (line_at w) w.disk commands (placed w (world.Committed commands) reached is (subst (HasRoom w) is h)), λ _. refl)
publish_follows w moment reached is h = (h, λ runs. runs)

unshown_follows : (w : World) (moment : Moment) → HasRoom w w.phase → Follows w (world.fail_publication w moment)
unshown_follows w (world.Committed commands) h = (tt, λ _. refl)
unshown_follows w moment h = (h, λ runs. runs)

note_follows : (w : World) (moment : Moment) → HasRoom w w.phase → Follows w (world.note w moment)
note_follows w (world.Published commands) h = (tt, λ _. refl)
note_follows w moment h = (h, λ runs. runs)

ack_follows : (w : World) (moment : Moment) → HasRoom w w.phase → Follows w (world.acknowledge w moment)
ack_follows w (world.Noted commands) h = (tt, λ _. refl)
ack_follows w moment h = (h, λ runs. runs)

looker_follows : (w : World) (event : Event) → is_lookers event ≡ true → IsReached w → HasRoom w w.phase → Follows w (step w event)
looker_follows w event is reached h =
    let v : World = (step w event).world in
    let moment : v.phase ≡ w.phase = moment_stays w event is reached in
    (subst (HasRoom v) (sym moment) (room_beside w v w.phase (room_stays w event is reached) h), λ runs. ap world.is_stopped moment ∙ runs)

step_follows : (w : World) (event : Event) → is_going event ≡ true → IsReached w → HasRoom w w.phase → Follows w (step w event)
step_follows w (events.Submit command) is reached h = submit_follows w (command ∷ []) w.phase h
step_follows w (events.SubmitAll commands) is reached h = submit_follows w commands w.phase h
step_follows w events.Call is reached h = call_follows w w.phase refl h
step_follows w (events.Fail fate) is reached h = fail_follows w fate w.phase h
step_follows w events.Publish is reached h = publish_follows w w.phase reached refl h
step_follows w events.PublishFail is reached h = unshown_follows w w.phase h
step_follows w events.Note is reached h = note_follows w w.phase h
step_follows w events.Ack is reached h = ack_follows w w.phase h
step_follows w (events.Stop fate) is reached h = absurd cc
step_follows w events.Reopen is reached h = absurd cc
step_follows w event is reached h = looker_follows w event refl reached h

stop_room : (w : World) (fate : Fate) (b : Bool) → HasRoom w w.phase → Roomy (cond b (world.unmet w) (world.stop w fate))
stop_room w fate true h = h
stop_room w fate false h = tt

reopen_room : (w : World) (moment : Moment) → HasRoom w w.phase → Roomy (world.reopen w moment)
reopen_room w world.Closed h = tt
reopen_room w world.Stopped h = tt
reopen_room w moment h = h

step_room : (w : World) (event : Event) → IsReached w → HasRoom w w.phase → Roomy (step w event)
step_room w (events.Stop fate) reached h = stop_room w fate (world.is_stopped w.phase) h
step_room w events.Reopen reached h = reopen_room w w.phase h
step_room w event reached h = (step_follows w event refl reached h).0

run_room : (list : List Event) (w : World) → IsReached w → HasRoom w w.phase → HasRoom (run_from w list) (run_from w list).phase
run_room [] w reached h = h
run_room (event ∷ list) w reached h = run_room list (step w event).world (reached_run w (event ∷ []) reached) (step_room w event reached h)

pub room_of : (w : World) → IsReached w → HasRoom w w.phase
room_of w reached = subst (λ (v : World). HasRoom v v.phase) (sym reached.1) (run_room reached.0 start ([], refl) tt)

-- ---- one event

module _ (r : RegistryState) (w : World) (reached : IsReached w) (s : IsRegistryOf r w) where
  published_there : (moment : Moment) → w.phase ≡ moment → IsRegistryOf r (world.publish w moment).world
  published_there (world.Committed commands) is =
      let h : IsAt (spot (line_at w) w.disk (world.Committed commands)) w = placed w (world.Committed commands) reached is (subst (HasRoom w) is (room_of w reached)) in
      let next : State = fold (published_version w) commands in
      let to : step w events.Publish ≡ world.publish w (world.Committed commands) = ap (world.publish w) is in
      let there = publishes (line_at w) w.disk w commands h (room_published w (line_at w) w.disk commands h) in
      let now : published_version (world.publish w (world.Committed commands)).world ≡ next = subst (λ (t : Step). published_version t.world ≡ next) to there.1.shown in
      registers_published (line_at w) w.disk commands r w s h now
  published_there moment is = s

  noted_there : (moment : Moment) → w.phase ≡ moment → IsRegistryOf (noted_at r (published_version w) moment) (world.note w moment).world
  noted_there (world.Published commands) is =
      let h : IsAt (spot (line_at w) w.disk (world.Published commands)) w = placed w (world.Published commands) reached is (subst (HasRoom w) is (room_of w reached)) in
      (registers_noted (line_at w) w.disk commands r w s h (published_version w) refl).1
  noted_there moment is = s

  pub registers_event : (event : Event) → is_going event ≡ true → world.is_stopped w.phase ≡ false → IsRegistryOf (registry_after r w event) (step w event).world
  registers_event events.Publish is going = published_there w.phase refl
  registers_event events.Note is going = noted_there w.phase refl
  registers_event events.Ack is going = acknowledges_registers r w s
  registers_event (events.Online looker) is going = registers_beside r w (events.Online looker) refl going reached s
  registers_event (events.Fetch looker) is going = registers_beside r w (events.Fetch looker) refl going reached s
  registers_event (events.Announce looker) is going = registers_beside r w (events.Announce looker) refl going reached s
  registers_event (events.Offline looker) is going = registers_beside r w (events.Offline looker) refl going reached s
  registers_event (events.Look looker packet) is going = registers_beside r w (events.Look looker packet) refl going reached s
  registers_event events.Reclaim is going = registers_beside r w events.Reclaim refl going reached s
  registers_event (events.Stop fate) is going = absurd cc
  registers_event events.Reopen is going = absurd cc
  registers_event event is going = storing_registers r w event refl s

-- ---- a list of them

pub through : (all : List Event) → Each (λ event. is_going event ≡ true) all → (r : RegistryState) (w : World) → world.is_stopped w.phase ≡ false → IsReached w → IsRegistryOf r w → IsRegistryOf (registry_through r w all) (run_from w all)
through [] each r w going reached s = s
through (event ∷ all) each r w going reached s =
    through all each.1 (registry_after r w event) (step w event).world ((step_follows w event each.0 reached (room_of w reached)).1 going) (reached_run w (event ∷ []) reached) (registers_event r w reached s event each.0 going)

lookers_go_on : (event : Event) → is_lookers event ≡ true → is_going event ≡ true
lookers_go_on (events.Stop fate) is = absurd cc
lookers_go_on events.Reopen is = absurd cc
lookers_go_on event is = refl

-- if the publisher's own events go on, so do all
pub all_go_on : (all list : List Event) → own all ≡ list → Each (λ event. is_going event ≡ true) list → Each (λ event. is_going event ≡ true) all
all_go_on all list e each =
    by_own (λ all list. Each (λ event. is_going event ≡ true) list → Each (λ event. is_going event ≡ true) all) (λ _. tt)
    (λ event all is again each. (lookers_go_on event is, again each))
    (λ event all is again each. (each.0, again each.1))
    all (subst (λ (xs : List Event). Each (λ event. is_going event ≡ true) xs) (sym e) each)

pub asks_go_on : (event : Event) → AsksSome event → is_going event ≡ true
asks_go_on (events.Stop fate) some = absurd (omega (arith, some))
asks_go_on events.Reopen some = absurd (omega (arith, some))
asks_go_on event some = refl

pub failed_go_on : (commands : List Command) (call : StoreCall) (fate : Fate) → Each (λ event. is_going event ≡ true) (fail_events commands call fate)
failed_go_on commands call fate = calls_then (λ event. is_going event ≡ true) refl commands call (events.Fail fate ∷ []) (refl, tt)

pub committed_go_on : (commands : List Command) (rest : List Event) → Each (λ event. is_going event ≡ true) rest → Each (λ event. is_going event ≡ true) (commit_events commands ++ rest)
committed_go_on commands rest each = committed_then (λ event. is_going event ≡ true) refl commands rest each

-- ---- the registry beside the world

pub room_is_room : RoomIsRoom
room_is_room r w reached s = room_is r w reached s

pub every_event_registers : EveryEventKeepsRegistry
every_event_registers r w event is going reached s = registers_event r w reached s event is going
