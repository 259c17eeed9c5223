-- Publications, lookers and reclaims of a replay, and whole replays.
use Rattle.std.proofs.Common.{◌≡◌, ℕ, zero, suc, ◌+◌, ◌<◌, ◌≤◌, true, false, List, [], ◌∷◌, ◌++◌, Option, Some, None, length, map, set, replicate, refl, sym, ap, ◌∙◌, subst, arith}
use Rattle.std.specs.Prelude.{nat_lt, if◌then◌else◌}
use Rattle.std.specs.List.{AllZip}
use Rattle.std.proofs.lemmas.Bool.Decides.{nat_tests}
use Rattle.std.proofs.lemmas.List.{append_assoc, map-set}
use Rattle.prt_addr.proofs.Each.{each_append, each_implies}
use Rattle.prt_command.specs.declared.request.Command.{Command}
use Rattle.prt_grace.specs.Registry.{announced, announcing}
use Rattle.prt_grace.specs.declared.limits.TheConstants.{PLACES}
use Rattle.prt_grace.specs.declared.place.PlaceState.TheVariants as places
use Rattle.prt_rule.specs.declared.packet.Packet.{Packet}
use Rattle.prt_version.specs.Change.{fold}
use Rattle.prt_version.specs.State.{State}
use Rattle.prt_replay.specs.Durability.{state_after}
use Rattle.prt_replay.specs.Machine as machine
use Rattle.prt_replay.specs.Machine.{MachineState, MachineStep, SeatState, empty_seat, machine_outcomes, machine_step, opened, seat_of, seats_below}
use Rattle.prt_replay.specs.declared.stage.Stage.TheVariants as stages
use Rattle.prt_replay.specs.World as world
use Rattle.prt_replay.specs.World.{LookerState, Phase, Committed, Published, Noted, Closed, Stopped, Step, World, announced_by, kept, looker_state, offline, online, outcomes_from, published_version, start, step, version}
use Rattle.prt_replay.specs.declared.outcome.Outcome.TheVariants as outcomes
use Rattle.prt_replay.proofs.History.{IsServed}
use Rattle.prt_replay.proofs.KeptVersions.{kept_count, other_number, same_number}
use Rattle.prt_replay.proofs.Phases.{Holds, Phased, shown_version, version_kept}
use Rattle.prt_replay.proofs.SideBySide.{map_set_same, zip_get, zip_set}
use Rattle.prt_replay.proofs.Simulation.{AreLookers, SimulatesStep, IsSeatOf, IsUnderWay, Simulates, moved, shown_count, stage_of, stays_put, unnoted}

-- ---- opened again

one_more_offline : (accepted : List Command) (i n : ℕ) (seats : List SeatState) → AllZip (IsSeatOf accepted) seats (replicate n offline) → AllZip (IsSeatOf accepted) (seats ++ empty_seat i ∷ []) (replicate (suc n) offline)
one_more_offline accepted i zero [] h = ((refl, refl), tt)
one_more_offline accepted i (suc n) (seat ∷ seats) h = (h.0, one_more_offline accepted i n seats h.1)
one_more_offline accepted i zero (seat ∷ seats) h = absurd h
one_more_offline accepted i (suc n) [] h = absurd h

seats_offline : (accepted : List Command) (n : ℕ) → AllZip (IsSeatOf accepted) (seats_below n) (replicate n offline)
unfolding seats_below
seats_offline accepted zero = tt
seats_offline accepted (suc n) = one_more_offline accepted n n (seats_below n) (seats_offline accepted n)

none_told : (n : ℕ) → map announced (replicate n places.Offline) ≡ map announced_by (replicate n offline)
none_told zero = refl
none_told (suc n) = ap (λ xs. None ∷ xs) (none_told n)

pub all_offline : (accepted : List Command) → AreLookers (replicate PLACES places.Offline) (seats_below PLACES) accepted (replicate PLACES offline)
all_offline accepted = record { told = none_told PLACES; seated = seats_offline accepted PLACES }

pub reopened_simulates : (m : MachineState) (w : World) → Holds (world.reopened w) → Simulates m w → SimulatesStep (record { machine = opened m.disk; outcome = outcomes.Reopened m.disk.count }) (record { world = world.reopened w; outcome = outcomes.Reopened (world.durable w) })
reopened_simulates m w h s = record {
  shows = ap (λ state. outcomes.Reopened state.count) s.disk;
  simulates = record {
    stage = refl;
    disk = s.disk;
    versions = record {
      published = s.disk ∙ h.counts.prefix;
      noted = ap (λ state. state.count) s.disk;
      below = tt;
      all = ap (λ state. state ∷ []) (sym s.disk) ∙ ap (λ b. m.disk ∷ unnoted b m.disk) (sym (same_number w.disk.count w.disk.count refl));
    };
    lookers = all_offline (world.reopened w).accepted;
    under_way = tt;
  };
}

pub reopen_simulates : (m : MachineState) (w : World) (phase : Phase) → Holds (world.reopened w) → Simulates m w → SimulatesStep (machine.reopen_by m (stage_of phase)) (world.reopen w phase)
reopen_simulates m w Closed h s = reopened_simulates m w h s
reopen_simulates m w Stopped h s = reopened_simulates m w h s
reopen_simulates m w phase h s = stays_put m w s

-- ---- publication

pub publish_simulates : (m : MachineState) (w : World) (phase : Phase) → Holds w → Phased w phase → IsUnderWay m.next m.lookers.registry.retired w.disk phase → Simulates m w → SimulatesStep (machine.publish_by m (stage_of phase)) (world.publish w phase)
publish_simulates m w (Committed commands) h phased under_way s =
    let known : w.noted ≡ w.published = phased.known in
    let next : w.disk.count ≡ w.published + length commands = phased.next in
    let some : 1 ≤ length commands = phased.some in
    let made : fold (published_version w) commands ≡ m.disk = ap (λ state. fold state commands) (shown_version w h) ∙ sym phased.after ∙ sym s.disk in
    let settled : w.versions ≡ m.lookers.registry.retired ++ m.lookers.registry.noted ∷ [] = s.versions.all ∙ ap (λ b. m.lookers.registry.retired ++ m.lookers.registry.noted ∷ unnoted b m.published) (same_number w.noted w.published known) in
    record {
      shows = ap (λ state. outcomes.Published state.count) s.disk;
      simulates = record {
        stage = refl;
        disk = s.disk;
        versions = record {
          published = s.disk ∙ h.counts.prefix;
          noted = s.versions.noted;
          below = s.versions.below;
          all =
              ap (λ xs. xs ++ fold (published_version w) commands ∷ []) settled
              ∙ ap (λ state. (m.lookers.registry.retired ++ m.lookers.registry.noted ∷ []) ++ state ∷ []) made
              ∙ append_assoc m.lookers.registry.retired (m.lookers.registry.noted ∷ []) (m.disk ∷ [])
              ∙ ap (λ b. m.lookers.registry.retired ++ m.lookers.registry.noted ∷ unnoted b m.disk) (sym (other_number w.noted w.noted w.disk.count (omega arith) (omega arith)));
        };
        lookers = s.lookers;
        under_way = under_way;
      };
    }
publish_simulates m w phase h phased under_way s = stays_put m w s

pub fail_publication_simulates : (m : MachineState) (w : World) (phase : Phase) → Simulates m w → SimulatesStep (machine.fail_publication_by m (stage_of phase)) (world.fail_publication w phase)
fail_publication_simulates m w (Committed commands) s = record { shows = refl; simulates = moved m w w.disk w.pending m.next m.disk stages.Closed Closed refl s.disk tt s }
fail_publication_simulates m w phase s = stays_put m w s

pub note_simulates : (m : MachineState) (w : World) (phase : Phase) → Holds w → Phased w phase → IsUnderWay m.next m.lookers.registry.retired w.disk phase → Simulates m w → SimulatesStep (machine.note_by m (stage_of phase)) (world.note w phase)
note_simulates m w (Published commands) h phased under_way s =
    let shown : m.published.count ≡ w.published = shown_count m w h s in
    let noted : m.lookers.registry.noted.count ≡ w.noted = s.versions.noted in
    let next : w.published ≡ w.noted + length commands = phased.1 in
    let some : 1 ≤ length commands = phased.0.some in
    let can : machine.can_note m ≡ true = grind (arith, nat_tests) in
    let one : w.versions ≡ m.lookers.registry.retired ++ m.lookers.registry.noted ∷ (m.published ∷ []) = s.versions.all ∙ ap (λ b. m.lookers.registry.retired ++ m.lookers.registry.noted ∷ unnoted b m.published) (other_number w.noted w.noted w.published (omega arith) (omega arith)) in
    let simulated : SimulatesStep (machine.note_if m true) (world.note w (Published commands)) = record {
      shows = ap outcomes.Noted shown;
      simulates = record {
        stage = refl;
        disk = s.disk;
        versions = record {
          published = s.versions.published;
          noted = shown;
          below = each_append (λ state. state.count < w.published) m.lookers.registry.retired (m.lookers.registry.noted ∷ []) (each_implies (λ state. state.count < w.noted) (λ state. state.count < w.published) (λ state low. omega arith) m.lookers.registry.retired s.versions.below) (omega arith, tt);
          all = one ∙ sym (append_assoc m.lookers.registry.retired (m.lookers.registry.noted ∷ []) (m.published ∷ [])) ∙ ap (λ b. (m.lookers.registry.retired ++ m.lookers.registry.noted ∷ []) ++ m.published ∷ unnoted b m.published) (sym (same_number w.published w.published refl));
        };
        lookers = s.lookers;
        under_way = tt;
      };
    } in
    subst (λ b. SimulatesStep (machine.note_if m b) (world.note w (Published commands))) (sym can) simulated
note_simulates m w phase h phased under_way s = stays_put m w s

pub acknowledge_simulates : (m : MachineState) (w : World) (phase : Phase) → Holds w → Simulates m w → SimulatesStep (machine.acknowledge_by m (stage_of phase)) (world.acknowledge w phase)
acknowledge_simulates m w (Noted commands) h s = record { shows = ap outcomes.Acknowledged (shown_count m w h s); simulates = record { stage = refl; disk = s.disk; versions = s.versions; lookers = s.lookers; under_way = tt } }
acknowledge_simulates m w phase h s = stays_put m w s

-- ---- lookers

told_back : (number : Option ℕ) → announced (announcing number) ≡ number
told_back None = refl
told_back (Some number) = refl

-- a looker changes its place
sit_simulated : (m : MachineState) (w : World) (looker : ℕ) (number : Option ℕ) (held : Option State) (state : LookerState) → announced_by state ≡ number → IsSeatOf w.accepted (record { place = record (seat_of m.lookers looker).place { announced = number }; held = held }) state → Simulates m w → Simulates (record m { lookers = machine.sit m.lookers looker number held }) (world.with_looker w looker state)
sit_simulated m w looker number held state same seated s = record {
  stage = s.stage;
  disk = s.disk;
  versions = s.versions;
  lookers = record {
    told =
        map-set announced m.lookers.registry.places looker (announcing number)
        ∙ ap (λ xs. set xs looker (announced (announcing number))) s.lookers.told
        ∙ ap (set (map announced_by w.lookers) looker) (told_back number ∙ sym same)
        ∙ sym (map-set announced_by w.lookers looker state);
    seated = zip_set (IsSeatOf w.accepted) m.lookers.seats w.lookers looker (record { place = record (seat_of m.lookers looker).place { announced = number }; held = held }) state seated s.lookers.seated;
  };
  under_way = s.under_way;
}

-- a looker holds another version
hold_simulated : (m : MachineState) (w : World) (looker : ℕ) (held : Option State) (state : LookerState) → announced_by state ≡ announced_by (looker_state w looker) → IsSeatOf w.accepted (record { place = (seat_of m.lookers looker).place; held = held }) state → Simulates m w → Simulates (record m { lookers = machine.hold m.lookers looker held }) (world.with_looker w looker state)
hold_simulated m w looker held state same seated s = record {
  stage = s.stage;
  disk = s.disk;
  versions = s.versions;
  lookers = record {
    told = s.lookers.told ∙ sym (map_set_same announced_by w.lookers looker state offline same);
    seated = zip_set (IsSeatOf w.accepted) m.lookers.seats w.lookers looker (record { place = (seat_of m.lookers looker).place; held = held }) state seated s.lookers.seated;
  };
  under_way = s.under_way;
}

pub seat_here : (m : MachineState) (w : World) (looker : ℕ) → Simulates m w → IsSeatOf w.accepted (seat_of m.lookers looker) (looker_state w looker)
seat_here m w looker s = zip_get (IsSeatOf w.accepted) m.lookers.seats w.lookers looker (empty_seat looker) offline (refl, refl) s.lookers.seated

pub tells : (accepted : List Command) (seat : SeatState) (state : LookerState) → IsSeatOf accepted seat state → seat.place.announced ≡ announced_by state
tells accepted seat offline h = h.0
tells accepted seat (online number None) h = h.0
tells accepted seat (online number (Some held)) h = h.0

pub online_simulates : (m : MachineState) (w : World) (looker : ℕ) (state : LookerState) → Simulates m w → SimulatesStep (machine.online_by m looker (announced_by state)) (world.go_online w looker state)
online_simulates m w looker offline s =
    let noted : m.lookers.registry.noted.count ≡ w.noted = s.versions.noted in
    record { shows = ap (outcomes.Online looker) noted; simulates = sit_simulated m w looker (Some m.lookers.registry.noted.count) None (online w.noted None) (ap Some (sym noted)) (ap Some noted, refl) s }
online_simulates m w looker (online number held) s = stays_put m w s

pub fetch_simulates : (m : MachineState) (w : World) (looker : ℕ) (state : LookerState) → looker_state w looker ≡ state → Holds w → Simulates m w → SimulatesStep (machine.fetch_by m looker (announced_by state)) (world.fetch w looker state)
fetch_simulates m w looker offline is h s = stays_put m w s
fetch_simulates m w looker (online number held) is h s =
    let told : (seat_of m.lookers looker).place.announced ≡ Some number = tells w.accepted (seat_of m.lookers looker) (looker_state w looker) (seat_here m w looker s) ∙ ap announced_by is in
    record { shows = ap (outcomes.Fetched looker) (shown_count m w h s); simulates = hold_simulated m w looker (Some m.published) (online number (Some w.published)) (ap announced_by (sym is)) (told, ap Some s.versions.published) s }

pub offline_simulates : (m : MachineState) (w : World) (looker : ℕ) (state : LookerState) → Simulates m w → SimulatesStep (machine.offline_by m looker (announced_by state)) (world.go_offline w looker state)
offline_simulates m w looker offline s = stays_put m w s
offline_simulates m w looker (online number held) s = record { shows = refl; simulates = sit_simulated m w looker None None offline refl (refl, refl) s }

pub announce_simulates : (m : MachineState) (w : World) (looker : ℕ) (state : LookerState) (told : Option ℕ) (holds : Option State) → (seat_of m.lookers looker).held ≡ holds → IsSeatOf w.accepted (record { place = record (seat_of m.lookers looker).place { announced = told }; held = holds }) state → IsServed w.accepted w.published w.versions state → Simulates m w → SimulatesStep (machine.announce_by m looker (machine.announceable told holds)) (world.announce w looker state)
announce_simulates m w looker offline told holds is seated served s = subst (λ o. SimulatesStep (machine.announce_by m looker (machine.announceable o holds)) (world.unmet w)) (sym seated.0) (stays_put m w s)
announce_simulates m w looker (online number None) told holds is seated served s =
    subst (λ o. SimulatesStep (machine.announce_by m looker (machine.announceable o holds)) (world.unmet w)) (sym seated.0)
    (subst (λ o. SimulatesStep (machine.announce_by m looker (machine.announceable (Some number) o)) (world.unmet w)) (sym seated.1) (stays_put m w s))
announce_simulates m w looker (online number (Some held)) told holds is seated served s =
    let count : (state_after w.accepted held).count ≡ held = kept_count w.versions held (state_after w.accepted held) served.is_kept in
    let low : number ≤ held = served.low in
    let can : nat_lt held number ≡ false = grind (arith, nat_tests) in
    let number_is : machine.announceable told holds ≡ Some held =
    ap (λ o. machine.announceable o holds) seated.0
    ∙ ap (machine.announceable (Some number)) seated.1
    ∙ ap (λ n. if nat_lt n number then None else Some n) count
    ∙ ap (λ b. if b then None else Some held) can in
    subst (λ o. SimulatesStep (machine.announce_by m looker o) (world.announce w looker (online number (Some held)))) (sym number_is)
    (record { shows = refl; simulates = sit_simulated m w looker (Some held) (seat_of m.lookers looker).held (online held (Some held)) refl (refl, is ∙ seated.1) s })

pub look_simulates : (m : MachineState) (w : World) (packet : Packet) (state : LookerState) (holds : Option State) (seat : SeatState) → seat.held ≡ holds → IsSeatOf w.accepted seat state → IsServed w.accepted w.published w.versions state → Simulates m w → SimulatesStep (machine.look_by m packet holds) (world.look w packet state)
look_simulates m w packet offline holds seat is seated served s = subst (λ o. SimulatesStep (machine.look_by m packet o) (world.unmet w)) (sym seated.1 ∙ is) (stays_put m w s)
look_simulates m w packet (online number None) holds seat is seated served s = subst (λ o. SimulatesStep (machine.look_by m packet o) (world.unmet w)) (sym seated.1 ∙ is) (stays_put m w s)
look_simulates m w packet (online number (Some held)) holds seat is seated served s =
    subst (λ o. SimulatesStep (machine.look_by m packet o) (world.look w packet (online number (Some held)))) (sym seated.1 ∙ is)
    (record {
      shows = ap (λ state. outcomes.Answered (world.answer_by state packet)) (sym (version_kept w held (state_after w.accepted held) served.is_kept));
      simulates = record { stage = s.stage; disk = s.disk; versions = s.versions; lookers = s.lookers; under_way = s.under_way };
    })
