-- What a replay keeps simulates the world of its events.
use Rattle.std.proofs.Common.{◌≡◌, ℕ, ◌+◌, ◌-◌, ◌<◌, ◌≤◌, Bool, true, false, List, [], ◌∷◌, ◌++◌, Option, Some, None, length, map, take, refl, sym, ap, ◌∙◌, subst, arith, cond}
use Rattle.std.specs.Prelude.{◌==◌, filter, nat_lt}
use Rattle.std.specs.List.{AllZip, AllByRecursion as Each}
use Rattle.std.proofs.lemmas.Bool.Decides.{nat_tests}
use Rattle.std.proofs.lemmas.List.{append-nil, take-append-le}
use Rattle.std.proofs.lemmas.List.Elements.{filter-append}
use Rattle.prt_refusals.specs.declared.refusal.Refusal.{Refusal}
use Rattle.prt_refusals.specs.declared.refusal.StoreCall.{StoreCall}
use Rattle.prt_refusals.specs.declared.refusal.StoreCall.TheVariants.{Begin, Write, Count, Commit}
use Rattle.prt_addr.proofs.Each.{each_implies}
use Rattle.prt_command.specs.declared.request.Command.{Command}
use Rattle.prt_grace.specs.GracePeriod.{is_retired}
use Rattle.prt_grace.specs.Registry.{announced}
use Rattle.prt_grace.specs.declared.limits.TheConstants.{MOST_RETIRED}
use Rattle.prt_grace.specs.declared.place.PlaceState.{PlaceState}
use Rattle.prt_version.specs.Accepted.{refusal_all}
use Rattle.prt_version.specs.Change.{fold}
use Rattle.prt_version.specs.State.{State}
use Rattle.prt_version.proofs.Folds.{accepted_all, count_fold}
use Rattle.prt_replay.specs.Durability.{state_after}
use Rattle.prt_replay.specs.Machine as machine
use Rattle.prt_replay.specs.Machine.{LookersState, MachineState, MachineStep, SeatState, machine_outcomes, machine_step, opened}
use Rattle.prt_replay.specs.declared.stage.Stage.{Stage}
use Rattle.prt_replay.specs.declared.stage.Stage.TheVariants as stages
use Rattle.prt_replay.specs.World as world
use Rattle.prt_replay.specs.World.{LookerState, Phase, Ready, Prepared, Committed, Published, Noted, Closed, Stopped, Step, World, announced_by, kept, offline, online, outcomes_from, published_version, start, step, version}
use Rattle.prt_replay.specs.declared.event.Fate.{Fate}
use Rattle.prt_replay.specs.declared.event.Fate.TheVariants.{Kept}
use Rattle.prt_replay.specs.declared.outcome.Outcome.TheVariants as outcomes
use Rattle.prt_replay.proofs.History.{IsServed, same_state}
use Rattle.prt_replay.proofs.KeptVersions.{kept_count}
use Rattle.prt_replay.proofs.SideBySide.{all_pass, none_pass}
use Rattle.prt_replay.proofs.Phases.{Holds, Phased, settled_version, shown_version}

-- ---- the relation

-- so many of all rows are still to be written at this call
abbrev pub left_of : ℕ → ℕ → StoreCall → ℕ
left_of all done Begin = all
left_of all done Write = all - done
left_of all done Count = 0
left_of all done Commit = 0

abbrev pub stage_of : Phase → Stage
stage_of Ready = stages.Ready
stage_of (Prepared commands done call) = stages.Prepared (left_of (length commands) done call) call
stage_of (Committed commands) = stages.Committed
stage_of (Published commands) = stages.Published
stage_of (Noted commands) = stages.Noted
stage_of Closed = stages.Closed
stage_of Stopped = stages.Stopped

-- a seat is that of the looker
abbrev pub IsSeatOf : List Command → SeatState → LookerState → Type 0
IsSeatOf accepted seat offline = (seat.place.announced ≡ None) × (seat.held ≡ None)
IsSeatOf accepted seat (online number None) = (seat.place.announced ≡ Some number) × (seat.held ≡ None)
IsSeatOf accepted seat (online number (Some held)) = (seat.place.announced ≡ Some number) × (seat.held ≡ Some (state_after accepted held))

-- the version that is published and not noted
abbrev pub unnoted : Bool → State → List State
unnoted true state = []
unnoted false state = state ∷ []

-- the next version is that of the commands that are under way, and there is room to retire one more
abbrev pub IsUnderWay : State → List State → State → Phase → Type 0
IsUnderWay next retired disk (Prepared commands done call) = (next ≡ fold disk commands) × (length retired < MOST_RETIRED)
IsUnderWay next retired disk (Committed commands) = length retired < MOST_RETIRED
IsUnderWay next retired disk (Published commands) = length retired < MOST_RETIRED
IsUnderWay next retired disk Ready = Unit {0}
IsUnderWay next retired disk (Noted commands) = Unit {0}
IsUnderWay next retired disk Closed = Unit {0}
IsUnderWay next retired disk Stopped = Unit {0}

-- The registry's versions and the published one are those of the world.
pub record AreVersions (shown last : State) (retired : List State) (accepted : List Command) (number known : ℕ) (versions : List State) : Type 0 where
  pub published : shown ≡ state_after accepted number
  pub noted : last.count ≡ known
  pub below : Each (λ state. state.count < known) retired
  pub all : versions ≡ retired ++ last ∷ unnoted (known == number) shown

-- The registry's places and the seats are those of the lookers.
pub record AreLookers (places : List PlaceState) (seats : List SeatState) (accepted : List Command) (lookers : List LookerState) : Type 0 where
  pub told : map announced places ≡ map announced_by lookers
  pub seated : AllZip (IsSeatOf accepted) seats lookers

pub record Simulates (m : MachineState) (w : World) : Type 0 where
  pub stage : m.stage ≡ stage_of w.phase
  pub disk : m.disk ≡ w.disk
  pub versions : AreVersions m.published m.lookers.registry.noted m.lookers.registry.retired w.accepted w.published w.noted w.versions
  pub lookers : AreLookers m.lookers.registry.places m.lookers.seats w.accepted w.lookers
  pub under_way : IsUnderWay m.next m.lookers.registry.retired w.disk w.phase

-- the replay and the world show the same, and the replay simulates the world again
pub record SimulatesStep (m : MachineStep) (w : Step) : Type 0 where
  pub shows : m.outcome ≡ w.outcome
  pub simulates : Simulates m.machine w.world

-- ---- what represents the published version

shown_is : (m : MachineState) (w : World) → Holds w → Simulates m w → m.published ≡ published_version w
shown_is m w h s = s.versions.published ∙ sym (shown_version w h)

pub shown_count : (m : MachineState) (w : World) → Holds w → Simulates m w → m.published.count ≡ w.published
shown_count m w h s = ap (λ state. state.count) s.versions.published ∙ kept_count w.versions w.published (state_after w.accepted w.published) h.history.top_kept

pub each_unnoted : (P : State → Type 0) (b : Bool) (state : State) → P state → Each P (unnoted b state)
each_unnoted P true state here = tt
each_unnoted P false state here = (here, tt)

abbrev pub tops : MachineState → World → List State
tops m w = m.lookers.registry.noted ∷ unnoted (w.noted == w.published) m.published

-- the versions that are not retired have the noted number or a later one
pub tops_high : (m : MachineState) (w : World) → Holds w → Simulates m w → Each (λ state. w.noted ≤ state.count) (tops m w)
tops_high m w h s =
    let noted : m.lookers.registry.noted.count ≡ w.noted = s.versions.noted in
    let shown : m.published.count ≡ w.published = shown_count m w h s in
    let low : w.noted ≤ w.published = h.counts.noted_low in
    (omega arith, each_unnoted (λ state. w.noted ≤ state.count) (w.noted == w.published) m.published (omega arith))

is_low : (noted count : ℕ) → count < noted → nat_lt count noted ≡ true
is_low noted count low = grind (arith, nat_tests)

is_high : (noted count : ℕ) → noted ≤ count → nat_lt count noted ≡ false
is_high noted count high = grind (arith, nat_tests)

retired_only : (m : MachineState) (w : World) → Holds w → Simulates m w → filter (λ state. is_retired w.noted state.count) w.versions ≡ m.lookers.registry.retired
retired_only m w h s =
    let p = λ (state : State). is_retired w.noted state.count in
    ap (filter p) s.versions.all
    ∙ filter-append p m.lookers.registry.retired (tops m w)
    ∙ ap (λ xs. filter p m.lookers.registry.retired ++ xs) (none_pass p (tops m w) (each_implies (λ state. w.noted ≤ state.count) (λ state. p state ≡ false) (λ state high. is_high w.noted state.count high) (tops m w) (tops_high m w h s)))
    ∙ append-nil (filter p m.lookers.registry.retired)
    ∙ all_pass p m.lookers.registry.retired (each_implies (λ state. state.count < w.noted) (λ state. p state ≡ true) (λ state low. is_low w.noted state.count low) m.lookers.registry.retired s.versions.below)

room_is : (m : MachineState) (w : World) → Holds w → Simulates m w → world.has_room w ≡ nat_lt (length m.lookers.registry.retired) MOST_RETIRED
room_is m w h s = ap (λ xs. nat_lt (length xs) MOST_RETIRED) (retired_only m w h s)

pub stays_put : (m : MachineState) (w : World) → Simulates m w → SimulatesStep (machine.idle m) (world.unmet w)
stays_put m w s = record { shows = refl; simulates = s }

-- another stage, with what is on disk and what the open transaction holds
pub moved : (m : MachineState) (w : World) (disk pending next state : State) (stage : Stage) (phase : Phase) → stage ≡ stage_of phase → state ≡ disk → IsUnderWay next m.lookers.registry.retired disk phase → Simulates m w → Simulates (record { lookers = m.lookers; published = m.published; disk = state; next = next; stage = stage }) (record w { disk = disk; pending = pending; phase = phase })
moved m w disk pending next state stage phase is same under_way s = record { stage = is; disk = same; versions = s.versions; lookers = s.lookers; under_way = under_way }

-- ---- commands that are made together

prepare_simulates : (m : MachineState) (w : World) (commands : List Command) (reason : Option Refusal) (room : Bool) → refusal_all m.published commands ≡ reason → nat_lt (length m.lookers.registry.retired) MOST_RETIRED ≡ room → m.published ≡ w.disk → m.published.count ≡ w.published → Simulates m w → SimulatesStep (machine.prepare_all m commands reason room) (world.prepare w commands reason room)
prepare_simulates m w commands (Some reason) room asked roomy on_disk count s = record { shows = refl; simulates = s }
prepare_simulates m w commands None false asked roomy on_disk count s = record { shows = refl; simulates = s }
prepare_simulates m w commands None true asked roomy on_disk count s = record {
  shows = ap outcomes.Prepared (count_fold m.published commands (accepted_all m.published commands asked) ∙ ap (λ n. n + length commands) count);
  simulates = moved m w w.disk w.pending (fold m.published commands) m.disk (stages.Prepared (length commands) Begin) (Prepared commands 0 Begin) refl s.disk (ap (λ state. fold state commands) on_disk, grind (arith, nat_tests)) s;
}

ready_simulates : (m : MachineState) (w : World) (commands : List Command) → Holds w → Phased w Ready → Simulates m w → SimulatesStep (machine.submit_by m commands stages.Ready) (world.prepare w commands (refusal_all (published_version w) commands) (world.has_room w))
ready_simulates m w commands h phased s =
    let room = nat_lt (length m.lookers.registry.retired) MOST_RETIRED in
    let shown : m.published ≡ published_version w = shown_is m w h s in
    let simulated : SimulatesStep (machine.submit_by m commands stages.Ready) (world.prepare w commands (refusal_all m.published commands) room) = prepare_simulates m w commands (refusal_all m.published commands) room refl refl (shown ∙ settled_version w h phased) (shown_count m w h s) s in
    subst (λ b. SimulatesStep (machine.submit_by m commands stages.Ready) (world.prepare w commands (refusal_all (published_version w) commands) b)) (sym (room_is m w h s))
    (subst (λ state. SimulatesStep (machine.submit_by m commands stages.Ready) (world.prepare w commands (refusal_all state commands) room)) shown simulated)

submit_simulates : (m : MachineState) (w : World) (first : Command) (more : List Command) (phase : Phase) → Holds w → Phased w phase → Simulates m w → SimulatesStep (machine.submit_by m (first ∷ more) (stage_of phase)) (world.submit w (first ∷ more) phase)
submit_simulates m w first more Ready h phased s = ready_simulates m w (first ∷ more) h phased s
submit_simulates m w first more Closed h phased s = record { shows = refl; simulates = s }
submit_simulates m w first more phase h phased s = stays_put m w s

pub submit_all_simulates : (m : MachineState) (w : World) (commands : List Command) → Holds w → Simulates m w → SimulatesStep (machine.submit_some m commands) (world.submit w commands w.phase)
submit_all_simulates m w [] h s = stays_put m w s
submit_all_simulates m w (first ∷ more) h s = subst (λ stage. SimulatesStep (machine.submit_by m (first ∷ more) stage) (world.submit w (first ∷ more) w.phase)) (sym s.stage) (submit_simulates m w first more w.phase h h.phased s)

-- ---- a store call

seat_on : (top : ℕ) (accepted others : List Command) → ((n : ℕ) → n ≤ top → take n others ≡ take n accepted) → (versions : List State) → (seat : SeatState) (looker : LookerState) → IsServed accepted top versions looker → IsSeatOf accepted seat looker → IsSeatOf others seat looker
seat_on top accepted others agree versions seat offline served h = h
seat_on top accepted others agree versions seat (online number None) served h = h
seat_on top accepted others agree versions seat (online number (Some held)) served h = (h.0, h.1 ∙ ap Some (sym (same_state top accepted others agree held served.within)))

seats_on : (top : ℕ) (accepted others : List Command) → ((n : ℕ) → n ≤ top → take n others ≡ take n accepted) → (versions : List State) → (seats : List SeatState) (lookers : List LookerState) → Each (IsServed accepted top versions) lookers → AllZip (IsSeatOf accepted) seats lookers → AllZip (IsSeatOf others) seats lookers
seats_on top accepted others agree versions [] [] served h = tt
seats_on top accepted others agree versions (seat ∷ seats) (looker ∷ lookers) served h = (seat_on top accepted others agree versions seat looker served.0 h.0, seats_on top accepted others agree versions seats lookers served.1 h.1)
seats_on top accepted others agree versions [] (looker ∷ lookers) served h = absurd h
seats_on top accepted others agree versions (seat ∷ seats) [] served h = absurd h

begin_simulates : (m : MachineState) (w : World) (commands : List Command) (done : ℕ) → Holds w → Simulates m w → IsUnderWay m.next m.lookers.registry.retired w.disk (Prepared commands done Begin) → SimulatesStep (machine.call_by m (stage_of (Prepared commands done Begin))) (world.call w (Prepared commands done Begin))
begin_simulates m w commands done h s under_way =
    let low : w.published ≤ w.disk.count = h.counts.published_low in
    let long : w.disk.count ≤ length w.accepted = h.counts.durable_low in
    let agree : (n : ℕ) → n ≤ w.published → take n (w.accepted ++ commands) ≡ take n w.accepted = λ n within. take-append-le n w.accepted commands (omega arith) in
    record {
      shows = refl;
      simulates = record {
        stage = ap (λ left. stages.Prepared left Write) (omega arith);
        disk = s.disk;
        versions = record {
          published = s.versions.published ∙ sym (same_state w.published w.accepted (w.accepted ++ commands) agree w.published (omega arith));
          noted = s.versions.noted;
          below = s.versions.below;
          all = s.versions.all;
        };
        lookers = record { told = s.lookers.told; seated = seats_on w.published w.accepted (w.accepted ++ commands) agree w.versions m.lookers.seats w.lookers h.history.served s.lookers.seated };
        under_way = under_way;
      };
    }

-- the stage after a write
written_stage : (all done : ℕ) (b : Bool) → done < all → nat_lt (done + 1) all ≡ b → machine.after_write (all - done) ≡ stages.Prepared (left_of all (done + 1) (cond b Write Count)) (cond b Write Count)
written_stage all done true within asked =
    let more : nat_lt 1 (all - done) ≡ true = grind (arith, nat_tests) in
    ap (λ b. cond b (stages.Prepared (all - done - 1) Write) (stages.Prepared 0 Count)) more ∙ ap (λ left. stages.Prepared left Write) (omega arith)
written_stage all done false within asked =
    let last : nat_lt 1 (all - done) ≡ false = grind (arith, nat_tests) in
    ap (λ b. cond b (stages.Prepared (all - done - 1) Write) (stages.Prepared 0 Count)) last

write_simulates : (m : MachineState) (w : World) (commands : List Command) (done : ℕ) → done < length commands → IsUnderWay m.next m.lookers.registry.retired w.disk (Prepared commands done Write) → Simulates m w → SimulatesStep (machine.call_by m (stage_of (Prepared commands done Write))) (world.call w (Prepared commands done Write))
write_simulates m w commands done within under_way s = record {
  shows = refl;
  simulates = moved m w w.disk (world.written w commands done).pending m.next m.disk (machine.after_write (length commands - done)) (world.written w commands done).phase (written_stage (length commands) done (nat_lt (done + 1) (length commands)) within refl) s.disk under_way s;
}

pub call_simulates : (m : MachineState) (w : World) (phase : Phase) → Holds w → Phased w phase → IsUnderWay m.next m.lookers.registry.retired w.disk phase → Simulates m w → SimulatesStep (machine.call_by m (stage_of phase)) (world.call w phase)
call_simulates m w (Prepared commands done Begin) h phased under_way s = begin_simulates m w commands done h s under_way
call_simulates m w (Prepared commands done Write) h phased under_way s = write_simulates m w commands done phased.1 under_way s
call_simulates m w (Prepared commands done Count) h phased under_way s = record { shows = refl; simulates = moved m w w.disk (world.counted w commands).pending m.next m.disk (stages.Prepared 0 Commit) (Prepared commands (length commands) Commit) refl s.disk under_way s }
call_simulates m w (Prepared commands done Commit) h phased under_way s = record { shows = refl; simulates = moved m w w.pending w.pending m.next m.next stages.Committed (Committed commands) refl (under_way.0 ∙ sym phased.2) under_way.1 s }
call_simulates m w phase h phased under_way s = stays_put m w s

-- ---- a stop

left_is : (m : MachineState) (w : World) (fate : Fate) (phase : Phase) → Phased w phase → IsUnderWay m.next m.lookers.registry.retired w.disk phase → m.disk ≡ w.disk → machine.left_by m fate (stage_of phase) ≡ world.stopped w fate phase
left_is m w Kept (Prepared commands done Commit) phased under_way same = under_way.0 ∙ sym phased.2
left_is m w fate phase phased under_way same = same

pub fail_simulates : (m : MachineState) (w : World) (fate : Fate) (phase : Phase) → Phased w phase → IsUnderWay m.next m.lookers.registry.retired w.disk phase → Simulates m w → SimulatesStep (machine.fail_by m fate (stage_of phase)) (world.fail w fate phase)
fail_simulates m w fate (Prepared commands done next) phased under_way s =
    let disk = world.stopped w fate (Prepared commands done next) in
    record { shows = refl; simulates = moved m w disk disk m.next (machine.left_by m fate (stage_of (Prepared commands done next))) stages.Closed Closed refl (left_is m w fate (Prepared commands done next) phased under_way s.disk) tt s }
fail_simulates m w fate phase phased under_way s = stays_put m w s

pub stop_simulates : (m : MachineState) (w : World) (fate : Fate) → Holds w → Simulates m w → SimulatesStep (machine.stop_by m fate) (world.stop w fate)
stop_simulates m w fate h s =
    let disk = world.stopped w fate w.phase in
    record { shows = refl; simulates = moved m w disk disk m.next (machine.left_by m fate m.stage) stages.Stopped Stopped refl (ap (machine.left_by m fate) s.stage ∙ left_is m w fate w.phase h.phased s.under_way s.disk) tt s }
