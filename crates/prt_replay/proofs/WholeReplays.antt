-- Whole replays.
use Rattle.std.proofs.Common.{◌≡◌, ℕ, ◌+◌, ◌-◌, ◌<◌, ◌≤◌, Bool, true, false, List, [], ◌∷◌, ◌++◌, length, map, get_or, drop, refl, sym, ap, ◌∙◌, subst, arith, cond}
use Rattle.std.specs.Prelude.{filter}
use Rattle.std.specs.List.{AllByRecursion as Each}
use Rattle.std.proofs.lemmas.List.{append-nil, append_assoc, drop_all, drop_more, length-append}
use Rattle.std.proofs.lemmas.List.Elements.{filter-append}
use Rattle.prt_addr.proofs.Each.{each_filtered, each_implies, filtered_fit}
use Rattle.prt_grace.specs.GracePeriod.{after_reclaim}
use Rattle.prt_grace.specs.Registry.{announced, reclaimed}
use Rattle.prt_grace.specs.declared.limits.TheConstants.{MOST_RETIRED}
use Rattle.prt_version.specs.State.{State, opening_state}
use Rattle.prt_replay.specs.Machine as machine
use Rattle.prt_replay.specs.Machine.{MachineState, MachineStep, machine_outcomes, machine_step, opened, seat_of}
use Rattle.prt_replay.specs.World as world
use Rattle.prt_replay.specs.World.{Phase, Ready, Prepared, Committed, Published, Noted, Closed, Stopped, Step, World, announced_by, looker_state, outcomes_from, start, step}
use Rattle.prt_replay.specs.declared.event.Event.{Event}
use Rattle.prt_replay.specs.declared.event.Event.TheVariants as events
use Rattle.prt_replay.specs.declared.outcome.Outcome.{Outcome}
use Rattle.prt_replay.specs.declared.outcome.Outcome.TheVariants as outcomes
use Rattle.prt_replay.proofs.History.{not_retired, stays}
use Rattle.prt_replay.proofs.LookerSteps.{acknowledge_simulates, all_offline, announce_simulates, fail_publication_simulates, fetch_simulates, look_simulates, note_simulates, offline_simulates, online_simulates, publish_simulates, reopen_simulates, seat_here, tells}
use Rattle.prt_replay.proofs.Phases.{Holds, looker_served, reopened_holds, start_holds, step_holds}
use Rattle.prt_replay.proofs.SideBySide.{all_pass}
use Rattle.prt_replay.proofs.Simulation.{SimulatesStep, IsUnderWay, Simulates, call_simulates, fail_simulates, stage_of, stays_put, stop_simulates, submit_all_simulates, tops, tops_high}

-- ---- reclaiming

-- fewer versions are retired
fewer_retired : (next disk : State) (more fewer : List State) (phase : Phase) → length fewer ≤ length more → IsUnderWay next more disk phase → IsUnderWay next fewer disk phase
fewer_retired next disk more fewer Ready less h = tt
fewer_retired next disk more fewer (Prepared commands done call) less h = (h.0, let room : length more < MOST_RETIRED = h.1 in omega arith)
fewer_retired next disk more fewer (Committed commands) less h = omega arith
fewer_retired next disk more fewer (Published commands) less h = omega arith
fewer_retired next disk more fewer (Noted commands) less h = tt
fewer_retired next disk more fewer Closed less h = tt
fewer_retired next disk more fewer Stopped less h = tt

reclaim_simulates : (m : MachineState) (w : World) → Holds w → Simulates m w → SimulatesStep (machine.reclaim_by m) (world.reclaim w)
reclaim_simulates m w h s =
    let retired = m.lookers.registry.retired in
    let told = map announced_by w.lookers in
    let q = λ (state : State). stays w.noted told state.count in
    let left = filter q retired in
    let same : (reclaimed m.lookers.registry).retired ≡ left = ap (λ n. after_reclaim (λ (state : State). state.count) n (map announced m.lookers.registry.places) retired) s.versions.noted ∙ ap (λ ns. after_reclaim (λ (state : State). state.count) w.noted ns retired) s.lookers.told in
    let kept : world.kept_versions w ≡ left ++ tops m w =
    ap (filter q) s.versions.all
    ∙ filter-append q retired (tops m w)
    ∙ ap (λ xs. left ++ xs) (all_pass q (tops m w) (each_implies (λ state. w.noted ≤ state.count) (λ state. q state ≡ true) (λ state high. not_retired w.noted state.count told high) (tops m w) (tops_high m w h s))) in
    let before : length w.versions ≡ length retired + length (tops m w) = ap length s.versions.all ∙ length-append retired (tops m w) in
    let after : length (world.kept_versions w) ≡ length left + length (tops m w) = ap length kept ∙ length-append left (tops m w) in
    let number : length retired - length left ≡ length w.versions - length (world.kept_versions w) = omega arith in
    let less : length left ≤ length retired = filtered_fit q retired (length retired) (omega arith) in
    record {
      shows = ap (λ xs. outcomes.Reclaimed (length retired - length xs)) same ∙ ap outcomes.Reclaimed number;
      simulates = record {
        stage = s.stage;
        disk = s.disk;
        versions = record {
          published = s.versions.published;
          noted = s.versions.noted;
          below = subst (λ xs. Each (λ state. state.count < w.noted) xs) (sym same) (each_filtered (λ state. state.count < w.noted) q retired s.versions.below);
          all = kept ∙ ap (λ xs. xs ++ tops m w) (sym same);
        };
        lookers = s.lookers;
        under_way = subst (λ xs. IsUnderWay m.next xs w.disk w.phase) (sym same) (fewer_retired m.next w.disk retired left w.phase less s.under_way);
      };
    }

-- ---- one event

unless_simulates : (m : MachineState) (w : World) (ms : MachineStep) (ws : Step) (b : Bool) → Simulates m w → SimulatesStep ms ws → SimulatesStep (cond b (machine.idle m) ms) (cond b (world.unmet w) ws)
unless_simulates m w ms ws true s simulated = stays_put m w s
unless_simulates m w ms ws false s simulated = simulated

same_stopped : (phase : Phase) → machine.is_stopped_at (stage_of phase) ≡ world.is_stopped phase
same_stopped Stopped = refl
same_stopped phase = refl

while_simulates : (m : MachineState) (w : World) (ms : MachineStep) (ws : Step) → Simulates m w → SimulatesStep ms ws → SimulatesStep (machine.while_running m ms) (world.unless_stopped w ws)
while_simulates m w ms ws s simulated = subst (λ b. SimulatesStep (cond b (machine.idle m) ms) (world.unless_stopped w ws)) (sym (ap machine.is_stopped_at s.stage ∙ same_stopped w.phase)) (unless_simulates m w ms ws (world.is_stopped w.phase) s simulated)

told_at : (m : MachineState) (w : World) (looker : ℕ) → Simulates m w → machine.announced_at m.lookers looker ≡ announced_by (looker_state w looker)
told_at m w looker s = tells w.accepted (seat_of m.lookers looker) (looker_state w looker) (seat_here m w looker s)

step_simulates : (m : MachineState) (w : World) (event : Event) → Holds w → Simulates m w → SimulatesStep (machine_step m event) (step w event)
step_simulates m w (events.Submit command) h s = submit_all_simulates m w (command ∷ []) h s
step_simulates m w (events.SubmitAll commands) h s = submit_all_simulates m w commands h s
step_simulates m w events.Call h s = subst (λ p. SimulatesStep (machine.call_by m p) (step w events.Call)) (sym s.stage) (call_simulates m w w.phase h h.phased s.under_way s)
step_simulates m w (events.Fail fate) h s = subst (λ p. SimulatesStep (machine.fail_by m fate p) (step w (events.Fail fate))) (sym s.stage) (fail_simulates m w fate w.phase h.phased s.under_way s)
step_simulates m w events.Publish h s = subst (λ p. SimulatesStep (machine.publish_by m p) (step w events.Publish)) (sym s.stage) (publish_simulates m w w.phase h h.phased s.under_way s)
step_simulates m w events.PublishFail h s = subst (λ p. SimulatesStep (machine.fail_publication_by m p) (step w events.PublishFail)) (sym s.stage) (fail_publication_simulates m w w.phase s)
step_simulates m w events.Note h s = subst (λ p. SimulatesStep (machine.note_by m p) (step w events.Note)) (sym s.stage) (note_simulates m w w.phase h h.phased s.under_way s)
step_simulates m w events.Ack h s = subst (λ p. SimulatesStep (machine.acknowledge_by m p) (step w events.Ack)) (sym s.stage) (acknowledge_simulates m w w.phase h s)
step_simulates m w events.Reopen h s = subst (λ p. SimulatesStep (machine.reopen_by m p) (step w events.Reopen)) (sym s.stage) (reopen_simulates m w w.phase (reopened_holds w h) s)
step_simulates m w (events.Online looker) h s =
    while_simulates m w (machine.online_by m looker (machine.announced_at m.lookers looker)) (world.go_online w looker (looker_state w looker)) s
    (subst (λ o. SimulatesStep (machine.online_by m looker o) (world.go_online w looker (looker_state w looker))) (sym (told_at m w looker s)) (online_simulates m w looker (looker_state w looker) s))
step_simulates m w (events.Fetch looker) h s =
    while_simulates m w (machine.fetch_by m looker (machine.announced_at m.lookers looker)) (world.fetch w looker (looker_state w looker)) s
    (subst (λ o. SimulatesStep (machine.fetch_by m looker o) (world.fetch w looker (looker_state w looker))) (sym (told_at m w looker s)) (fetch_simulates m w looker (looker_state w looker) refl h s))
step_simulates m w (events.Announce looker) h s =
    while_simulates m w (machine.announce_by m looker (machine.can_announce m.lookers looker)) (world.announce w looker (looker_state w looker)) s
    (announce_simulates m w looker (looker_state w looker) (machine.announced_at m.lookers looker) (seat_of m.lookers looker).held refl (seat_here m w looker s) (looker_served w looker h) s)
step_simulates m w (events.Offline looker) h s =
    while_simulates m w (machine.offline_by m looker (machine.announced_at m.lookers looker)) (world.go_offline w looker (looker_state w looker)) s
    (subst (λ o. SimulatesStep (machine.offline_by m looker o) (world.go_offline w looker (looker_state w looker))) (sym (told_at m w looker s)) (offline_simulates m w looker (looker_state w looker) s))
step_simulates m w (events.Look looker packet) h s =
    while_simulates m w (machine.look_by m packet (seat_of m.lookers looker).held) (world.look w packet (looker_state w looker)) s
    (look_simulates m w packet (looker_state w looker) (seat_of m.lookers looker).held (seat_of m.lookers looker) refl (seat_here m w looker s) (looker_served w looker h) s)
step_simulates m w events.Reclaim h s = while_simulates m w (machine.reclaim_by m) (world.reclaim w) s (reclaim_simulates m w h s)
step_simulates m w (events.Stop fate) h s = while_simulates m w (machine.stop_by m fate) (world.stop w fate) s (stop_simulates m w fate h s)

-- ---- many

start_simulated : Simulates (opened opening_state) start
start_simulated = record {
  stage = refl;
  disk = refl;
  versions = record { published = refl; noted = refl; below = tt; all = refl };
  lookers = all_offline [];
  under_way = tt;
}

-- the replay shows what the events show
same_outcomes_from : (m : MachineState) (w : World) (events : List Event) → Holds w → Simulates m w → machine_outcomes m events ≡ outcomes_from w events
unfolding machine_outcomes
same_outcomes_from m w [] h s = refl
same_outcomes_from m w (event ∷ events) h s =
    let simulated : SimulatesStep (machine_step m event) (step w event) = step_simulates m w event h s in
    ap (λ outcome. outcome ∷ machine_outcomes (machine_step m event).machine events) simulated.shows
    ∙ ap (λ outcomes. (step w event).outcome ∷ outcomes) (same_outcomes_from (machine_step m event).machine (step w event).world events (step_holds w event h) simulated.simulates)

pub same_outcomes : (events : List Event) → machine_outcomes (opened opening_state) events ≡ outcomes_from start events
same_outcomes events = same_outcomes_from (opened opening_state) start events start_holds start_simulated

-- one event more
pub outcomes_more : (m after : MachineState) (outcome : Outcome) (trace : List Outcome) (events : List Event) (i : ℕ) (event : Event) → i < length events → event ≡ get_or events i event → record { machine = after; outcome = outcome } ≡ machine_step m event → (trace ++ outcome ∷ []) ++ machine_outcomes after (drop (i + 1) events) ≡ trace ++ machine_outcomes m (drop i events)
unfolding machine_outcomes
outcomes_more m after outcome trace events i event within is made =
    append_assoc trace (outcome ∷ []) (machine_outcomes after (drop (i + 1) events))
    ∙ ap (λ (s : MachineStep). trace ++ s.outcome ∷ machine_outcomes s.machine (drop (i + 1) events)) made
    ∙ ap (λ e. trace ++ machine_outcomes m (e ∷ drop (i + 1) events)) is
    ∙ ap (λ es. trace ++ machine_outcomes m es) (sym (drop_more events i event within))

-- none is left
pub outcomes_done : (m : MachineState) (trace outcomes : List Outcome) (events : List Event) (i : ℕ) → length events ≤ i → trace ++ machine_outcomes m (drop i events) ≡ outcomes → trace ≡ outcomes
unfolding machine_outcomes
outcomes_done m trace outcomes events i over whole =
    sym (append-nil trace)
    ∙ ap (λ es. trace ++ machine_outcomes m es) (sym (drop_all i events over))
    ∙ whole
