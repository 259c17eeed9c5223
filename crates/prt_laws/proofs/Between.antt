-- Events of lookers, and reclaims, leave a world where it is with commands.
use Rattle.std.proofs.Common.{◌≡◌, ℕ, ◌+◌, ◌<◌, ◌≤◌, Bool, true, false, List, [], ◌∷◌, ◌++◌, Some, None, length, map, refl, sym, ap, ◌∙◌, subst, arith, cond}
use Rattle.std.specs.Prelude.{filter, nat_lt, unwrap_or}
use Rattle.std.proofs.lemmas.Bool.Decides.{nat_tests}
use Rattle.std.proofs.lemmas.List.{append-nil}
use Rattle.std.proofs.lemmas.List.Elements.{filter-append}
use Rattle.prt_command.specs.declared.request.Command.{Command}
use Rattle.prt_published.specs.Line.{Line}
use Rattle.prt_grace.specs.GracePeriod.{is_retired}
use Rattle.prt_grace.specs.declared.limits.TheConstants.{MOST_RETIRED}
use Rattle.prt_rule.specs.declared.packet.Packet.{Packet}
use Rattle.prt_version.specs.Change.{fold}
use Rattle.prt_version.specs.State.{State, opening_state}
use Rattle.prt_replay.specs.World as world
use Rattle.prt_replay.specs.World.{Phase as Moment, LookerState, Step, World, announced_by, has_room, looker_state, offline, online, published_version, step}
use Rattle.prt_replay.specs.declared.event.Event.{Event}
use Rattle.prt_replay.specs.declared.event.Event.TheVariants as events
use Rattle.prt_replay.proofs.History.{not_retired, stays}
use Rattle.prt_replay.proofs.KeptVersions.{kept_filtered}
use Rattle.prt_replay.proofs.Phases.{Holds, Phased}
use Rattle.prt_laws.specs.Spots.{HasRoom, IsAt, IsReached, IsTold, Spot}
use Rattle.prt_laws.specs.Events.{is_lookers}
use Rattle.prt_laws.proofs.Steps.{disk_after, holds_of, phased_of, reached_run}

-- ---- room

abbrev retired : ℕ → List State → ℕ
retired noted versions = length (filter (λ state. is_retired noted state.count) versions)

has_by : (n m : ℕ) → m ≤ n → nat_lt n MOST_RETIRED ≡ true → nat_lt m MOST_RETIRED ≡ true
has_by n m low has = grind (arith, nat_tests)

fewer_by : (p : State → Bool) (state : State) (some all : List State) (b c : Bool) → p state ≡ c → length (filter p some) ≤ length (filter p all) → length (filter p (cond b (state ∷ some) some)) ≤ length (cond c (state ∷ filter p all) (filter p all))
fewer_by p state some all true c is rest = subst (λ d. length (cond d (state ∷ filter p some) (filter p some)) ≤ length (cond c (state ∷ filter p all) (filter p all))) (sym is) (grown c)
  where
    grown : (d : Bool) → length (cond d (state ∷ filter p some) (filter p some)) ≤ length (cond d (state ∷ filter p all) (filter p all))
    grown true = omega arith
    grown false = rest
fewer_by p state some all false true is rest = omega arith
fewer_by p state some all false false is rest = rest

-- fewer are retired of those that pass another test
fewer : (p q : State → Bool) (versions : List State) → length (filter p (filter q versions)) ≤ length (filter p versions)
fewer p q [] = omega arith
fewer p q (state ∷ versions) = fewer_by p state (filter q versions) versions (q state) (p state) refl (fewer p q versions)

pub is_less : (n m : ℕ) → n < m → nat_lt n m ≡ true
is_less n m less = grind (arith, nat_tests)

pub is_not_less : (n m : ℕ) → m ≤ n → nat_lt n m ≡ false
is_not_less n m more = grind (arith, nat_tests)

-- a version above the noted one takes no room
pub room_published : (w : World) (line : Line) (disk : State) (commands : List Command) → IsAt (record { line = line; disk = disk; moment = world.Committed commands }) w → HasRoom (world.publish w (world.Committed commands)).world (world.Published commands)
room_published w line disk commands h =
    let holds : Holds w = holds_of w h.reached in
    let p = λ (state : State). is_retired w.noted state.count in
    let phased : Phased w (world.Committed commands) = phased_of w (world.Committed commands) h.reached h.moment in
    let after : State = fold (published_version w) commands in
    let made : after ≡ w.disk = ap (λ (s : State). fold s commands) h.shown ∙ sym (disk_after line disk w commands h) in
    let next : w.disk.count ≡ w.published + length commands = phased.next in
    let known : w.noted ≡ w.published = phased.known in
    let high : p w.disk ≡ false = is_not_less w.disk.count w.noted (omega arith) in
    let none : filter p (after ∷ []) ≡ [] = ap (λ (s : State). filter p (s ∷ [])) made ∙ ap (λ b. cond b (w.disk ∷ []) []) high in
    let same : filter p (w.versions ++ after ∷ []) ≡ filter p w.versions =
    filter-append p w.versions (after ∷ []) ∙ ap (λ xs. filter p w.versions ++ xs) none ∙ append-nil (filter p w.versions) in
    ap (λ xs. nat_lt (length xs) MOST_RETIRED) same ∙ h.room

-- ---- one event

-- the same, except for lookers and versions that nobody can hold
record IsBeside (w v : World) : Type 0 where
  moment : v.phase ≡ w.phase
  disk : v.disk ≡ w.disk
  shown : published_version v ≡ published_version w
  room : has_room w ≡ true → has_room v ≡ true
  told : (line : Line) → IsTold line w.accepted w.published → IsTold line v.accepted v.published

same : (w : World) → IsBeside w w
same w = record { moment = refl; disk = refl; shown = refl; room = λ has. has; told = λ line h. h }

looker : (w : World) (at : ℕ) (state : LookerState) → IsBeside w (world.with_looker w at state)
looker w at state = record { moment = refl; disk = refl; shown = refl; room = λ has. has; told = λ line h. h }

onlines : (w : World) (at : ℕ) (state : LookerState) → IsBeside w (world.go_online w at state).world
onlines w at offline = looker w at (online w.noted None)
onlines w at (online announced held) = same w

fetches : (w : World) (at : ℕ) (state : LookerState) → IsBeside w (world.fetch w at state).world
fetches w at offline = same w
fetches w at (online announced held) = looker w at (online announced (Some w.published))

announces : (w : World) (at : ℕ) (state : LookerState) → IsBeside w (world.announce w at state).world
announces w at (online announced (Some held)) = looker w at (online held (Some held))
announces w at state = same w

offlines : (w : World) (at : ℕ) (state : LookerState) → IsBeside w (world.go_offline w at state).world
offlines w at offline = same w
offlines w at (online announced held) = looker w at offline

looks : (w : World) (packet : Packet) (state : LookerState) → IsBeside w (world.look w packet state).world
looks w packet (online announced None) = same w
looks w packet offline = same w
looks w packet (online announced (Some held)) = record { moment = refl; disk = refl; shown = refl; room = λ has. has; told = λ line h. h }

reclaims : (w : World) → Holds w → IsBeside w (world.reclaim w).world
reclaims w holds =
    let told = map announced_by w.lookers in
    record {
      moment = refl;
      disk = refl;
      shown = ap (λ found. unwrap_or found opening_state) (kept_filtered (stays w.noted told) w.versions w.published (not_retired w.noted w.published told holds.counts.noted_low));
      room = has_by (retired w.noted w.versions) (retired w.noted (world.kept_versions w)) (fewer (λ (state : State). is_retired w.noted state.count) (λ (state : State). stays w.noted told state.count) w.versions);
      told = λ line h. h;
    }

unless : (w : World) (s : Step) (b : Bool) → IsBeside w s.world → IsBeside w (cond b (world.unmet w) s).world
unless w s true h = same w
unless w s false h = h

beside : (w : World) (event : Event) → is_lookers event ≡ true → IsReached w → IsBeside w (step w event).world
beside w (events.Online at) is reached = unless w (world.go_online w at (looker_state w at)) (world.is_stopped w.phase) (onlines w at (looker_state w at))
beside w (events.Fetch at) is reached = unless w (world.fetch w at (looker_state w at)) (world.is_stopped w.phase) (fetches w at (looker_state w at))
beside w (events.Announce at) is reached = unless w (world.announce w at (looker_state w at)) (world.is_stopped w.phase) (announces w at (looker_state w at))
beside w (events.Offline at) is reached = unless w (world.go_offline w at (looker_state w at)) (world.is_stopped w.phase) (offlines w at (looker_state w at))
beside w (events.Look at packet) is reached = unless w (world.look w packet (looker_state w at)) (world.is_stopped w.phase) (looks w packet (looker_state w at))
beside w events.Reclaim is reached = unless w (world.reclaim w) (world.is_stopped w.phase) (reclaims w (holds_of w reached))
beside w event is reached = absurd cc

pub moment_stays : (w : World) (event : Event) → is_lookers event ≡ true → IsReached w → (step w event).world.phase ≡ w.phase
moment_stays w event is reached = (beside w event is reached).moment

pub room_stays : (w : World) (event : Event) → is_lookers event ≡ true → IsReached w → has_room w ≡ true → has_room (step w event).world ≡ true
room_stays w event is reached room = (beside w event is reached).room room

pub room_beside : (w v : World) (moment : Moment) → (has_room w ≡ true → has_room v ≡ true) → HasRoom w moment → HasRoom v moment
room_beside w v (world.Prepared commands done call) room h = room h
room_beside w v (world.Committed commands) room h = room h
room_beside w v (world.Published commands) room h = room h
room_beside w v moment room h = tt

-- a world is where it was after an event of a looker
pub stays_there : (spot : Spot) (w : World) (event : Event) → is_lookers event ≡ true → IsAt spot w → IsAt spot (step w event).world
stays_there spot w event is h =
    let b : IsBeside w (step w event).world = beside w event is h.reached in
    record {
      reached = reached_run w (event ∷ []) h.reached;
      moment = b.moment ∙ h.moment;
      disk = b.disk ∙ h.disk;
      shown = b.shown ∙ h.shown;
      told = b.told spot.line h.told;
      room = room_beside w (step w event).world spot.moment b.room h.room;
    }
