-- A registry of grace periods and the world.
use Rattle.std.proofs.Common.{◌≡◌, ℕ, ◌+◌, ◌<◌, ◌≤◌, Bool, true, false, List, [], ◌∷◌, ◌++◌, Some, None, length, map, get_or, set, replicate, zero, suc, refl, sym, ap, ◌∙◌, subst, arith, cond}
use Rattle.std.specs.Prelude.{◌==◌, ◌&&◌, filter, nat_lt, unwrap_or}
use Rattle.std.specs.List.{AllByRecursion as Each}
use Rattle.std.proofs.lemmas.List.{append-nil, append_assoc, map-set}
use Rattle.std.proofs.lemmas.List.Elements.{filter-append}
use Rattle.prt_addr.proofs.Each.{each_append, each_filtered, each_implies}
use Rattle.prt_published.specs.Line.{Line, line_state}
use Rattle.prt_grace.specs.GracePeriod.{after_reclaim, is_retired}
use Rattle.prt_grace.specs.Registry.{RegistryState, announced, new_registry, noted_by, reclaimed, with_noted, with_place}
use Rattle.prt_grace.specs.declared.limits.TheConstants.{MOST_RETIRED, PLACES}
use Rattle.prt_grace.specs.declared.place.PlaceState.{PlaceState}
use Rattle.prt_grace.specs.declared.place.PlaceState.TheVariants as places
use Rattle.prt_version.specs.State.{State, opening_state}
use Rattle.prt_version.specs.Change.{fold}
use Rattle.prt_command.specs.declared.request.Command.{Command}
use Rattle.prt_replay.specs.World as world
use Rattle.prt_replay.specs.World.{LookerState, Step, World, announced_by, has_room, looker_state, offline, online, published_version, start, step}
use Rattle.prt_replay.specs.declared.event.Event.{Event}
use Rattle.prt_replay.specs.declared.event.Event.TheVariants as events
use Rattle.prt_replay.proofs.History.{not_retired, stays}
use Rattle.prt_replay.proofs.KeptVersions.{kept_alone, kept_filtered, other_number, same_number}
use Rattle.prt_replay.proofs.Phases.{Holds, Phased, version_kept}
use Rattle.prt_replay.proofs.SideBySide.{all_pass, map_set_same, none_pass}
use Rattle.prt_laws.specs.Spots.{IsAt, IsReached, Spot}
use Rattle.prt_laws.specs.Events.{is_lookers}
use Rattle.prt_laws.specs.Registries.{IsRegistryOf, brought_online, registry_after, taken_offline, told_number}
use Rattle.prt_laws.proofs.Between.{is_less, is_not_less}
use Rattle.prt_laws.proofs.Steps.{holds_of, number_of, phased_of, shown_number}

-- the version that is published and not noted
abbrev unnoted_version : Bool → State → List State
unnoted_version noted state = cond noted [] (state ∷ [])

each_unnoted_version : (P : State → Type 0) (b : Bool) (state : State) → P state → Each P (unnoted_version b state)
each_unnoted_version P true state here = tt
each_unnoted_version P false state here = (here, tt)

abbrev tops : RegistryState → World → List State
tops r w = r.noted ∷ unnoted_version (w.noted == w.published) (published_version w)

-- the versions that are not retired have the noted number or a later one
tops_high : (r : RegistryState) (w : World) → w.noted ≤ w.published → (published_version w).count ≡ w.published → IsRegistryOf r w → Each (λ state. w.noted ≤ state.count) (tops r w)
tops_high r w low number s =
    let noted : r.noted.count ≡ w.noted = s.noted in
    (omega arith, each_unnoted_version (λ state. w.noted ≤ state.count) (w.noted == w.published) (published_version w) (omega arith))

module _ (r : RegistryState) (w : World) (reached : IsReached w) (s : IsRegistryOf r w) where
  highs : Each (λ state. w.noted ≤ state.count) (tops r w)
  highs = tops_high r w (holds_of w reached).counts.noted_low (shown_number w reached) s

  retired_only : filter (λ state. is_retired w.noted state.count) w.versions ≡ r.retired
  retired_only =
      let p = λ (state : State). is_retired w.noted state.count in
      ap (filter p) s.all
      ∙ filter-append p r.retired (tops r w)
      ∙ ap (λ xs. filter p r.retired ++ xs) (none_pass p (tops r w) (each_implies (λ state. w.noted ≤ state.count) (λ state. p state ≡ false) (λ state high. is_not_less state.count w.noted high) (tops r w) highs))
      ∙ append-nil (filter p r.retired)
      ∙ all_pass p r.retired (each_implies (λ state. state.count < w.noted) (λ state. p state ≡ true) (λ state low. is_less state.count w.noted low) r.retired s.below)

  -- the world has room exactly if the registry has
  pub room_is : has_room w ≡ nat_lt (length r.retired) MOST_RETIRED
  room_is = ap (λ xs. nat_lt (length xs) MOST_RETIRED) retired_only

  -- ---- reclaim

  pub registers_reclaimed : IsRegistryOf (reclaimed r) (world.reclaim w).world
  registers_reclaimed =
      let told = map announced_by w.lookers in
      let q = λ (state : State). stays w.noted told state.count in
      let left = filter q r.retired in
      let low : w.noted ≤ w.published = (holds_of w reached).counts.noted_low in
      let same : (reclaimed r).retired ≡ left = ap (λ n. after_reclaim (λ (state : State). state.count) n (map announced r.places) r.retired) s.noted ∙ ap (λ ns. after_reclaim (λ (state : State). state.count) w.noted ns r.retired) s.told in
      let shown : published_version (world.reclaim w).world ≡ published_version w = ap (λ found. unwrap_or found opening_state) (kept_filtered (stays w.noted told) w.versions w.published (not_retired w.noted w.published told low)) in
      record {
        noted = s.noted;
        below = subst (λ xs. Each (λ state. state.count < w.noted) xs) (sym same) (each_filtered (λ state. state.count < w.noted) q r.retired s.below);
        all =
            ap (filter q) s.all
            ∙ filter-append q r.retired (tops r w)
            ∙ ap (λ xs. left ++ xs) (all_pass q (tops r w) (each_implies (λ state. w.noted ≤ state.count) (λ state. q state ≡ true) (λ state high. not_retired w.noted state.count told high) (tops r w) highs))
            ∙ ap (λ xs. xs ++ tops r w) (sym same)
            ∙ ap (λ (state : State). (reclaimed r).retired ++ r.noted ∷ unnoted_version (w.noted == w.published) state) (sym shown);
        told = s.told;
      }

-- ---- publish and note

module _ (line : Line) (disk : State) (commands : List Command) (r : RegistryState) (w : World) (s : IsRegistryOf r w) where
  -- one more version, which is not noted
  pub registers_published : (h : IsAt (record { line = line; disk = disk; moment = world.Committed commands }) w) → published_version (world.publish w (world.Committed commands)).world ≡ fold (published_version w) commands → IsRegistryOf r (world.publish w (world.Committed commands)).world
  registers_published h shown =
      let holds : Holds w = holds_of w h.reached in
      let phased : Phased w (world.Committed commands) = phased_of w (world.Committed commands) h.reached h.moment in
      let next : w.disk.count ≡ w.published + length commands = phased.next in
      let known : w.noted ≡ w.published = phased.known in
      let some : 1 ≤ length commands = phased.some in
      let after : State = fold (published_version w) commands in
      record {
        noted = s.noted;
        below = s.below;
        all =
            ap (λ xs. xs ++ after ∷ []) (s.all ∙ ap (λ b. r.retired ++ r.noted ∷ unnoted_version b (published_version w)) (same_number w.noted w.published known))
            ∙ append_assoc r.retired (r.noted ∷ []) (after ∷ [])
            ∙ ap (λ (state : State). r.retired ++ r.noted ∷ (state ∷ [])) (sym shown)
            ∙ ap (λ b. r.retired ++ r.noted ∷ unnoted_version b (published_version (world.publish w (world.Committed commands)).world)) (sym (other_number w.noted w.noted w.disk.count (omega arith) (omega arith)));
        told = s.told;
      }

  -- the note takes place, and retires the version that was noted
  pub registers_noted : (h : IsAt (record { line = line; disk = disk; moment = world.Published commands }) w) → (version : State) → version ≡ line_state line → (noted_by r version ≡ with_noted r version) × IsRegistryOf (noted_by r version) (world.note w (world.Published commands)).world
  registers_noted h version is =
      let spot : Spot = record { line = line; disk = disk; moment = world.Published commands } in
      let phased : Phased w (world.Published commands) = phased_of w (world.Published commands) h.reached h.moment in
      let next : w.published ≡ w.noted + length commands = phased.1 in
      let some : 1 ≤ length commands = phased.0.some in
      let noted : r.noted.count ≡ w.noted = s.noted in
      let count : version.count ≡ w.published = ap (λ state. state.count) is ∙ number_of spot w h in
      let room : nat_lt (length r.retired) MOST_RETIRED ≡ true = sym (room_is r w h.reached s) ∙ h.room in
      let later : nat_lt r.noted.count version.count ≡ true = is_less r.noted.count version.count (omega arith) in
      let notes : noted_by r version ≡ with_noted r version =
      ap (λ b. cond (b && nat_lt r.noted.count version.count) (with_noted r version) r) room ∙ ap (λ b. cond (true && b) (with_noted r version) r) later in
      let shown : published_version w ≡ version = h.shown ∙ sym is in
      let all : w.versions ≡ (r.retired ++ r.noted ∷ []) ++ version ∷ unnoted_version (w.published == w.published) (published_version w) =
      s.all
      ∙ ap (λ b. r.retired ++ r.noted ∷ unnoted_version b (published_version w)) (other_number w.noted w.noted w.published (omega arith) (omega arith))
      ∙ ap (λ (state : State). r.retired ++ r.noted ∷ (state ∷ [])) shown
      ∙ sym (append_assoc r.retired (r.noted ∷ []) (version ∷ []))
      ∙ ap (λ b. (r.retired ++ r.noted ∷ []) ++ version ∷ unnoted_version b (published_version w)) (sym (same_number w.published w.published refl)) in
      let after : IsRegistryOf (with_noted r version) (world.note w (world.Published commands)).world = record {
        noted = count;
        below = each_append (λ state. state.count < w.published) r.retired (r.noted ∷ []) (each_implies (λ state. state.count < w.noted) (λ state. state.count < w.published) (λ state low. omega arith) r.retired s.below) (omega arith, tt);
        all = all;
        told = s.told;
      } in
      (notes, subst (λ (q : RegistryState). IsRegistryOf q (world.note w (world.Published commands)).world) (sym notes) after)

-- ---- a registry that is opened

none_told : (n : ℕ) → map announced (replicate n places.Free) ≡ map announced_by (replicate n offline)
none_told zero = refl
none_told (suc n) = ap (λ xs. None ∷ xs) (none_told n)

-- a new registry stands for a world that was just opened
pub registers_opened : (w : World) (opened : State) → opened ≡ w.disk → IsRegistryOf (new_registry opened) (world.reopened w)
registers_opened w opened is =
    let shown : published_version (world.reopened w) ≡ w.disk = version_kept (world.reopened w) w.disk.count w.disk (kept_alone w.disk) in
    record {
      noted = ap (λ state. state.count) is;
      below = tt;
      all = ap (λ (state : State). state ∷ []) (sym is) ∙ ap (λ b. opened ∷ unnoted_version b (published_version (world.reopened w))) (sym (same_number w.disk.count w.disk.count refl));
      told = none_told PLACES;
    }

pub registers_started : IsRegistryOf (new_registry opening_state) start
registers_started = record { noted = refl; below = tt; all = refl; told = none_told PLACES }

-- ---- lookers

module _ (r : RegistryState) (w : World) (s : IsRegistryOf r w) where
  -- a looker and its place announce the same
  pub sits : (i : ℕ) (place : PlaceState) (state : LookerState) → announced place ≡ announced_by state → IsRegistryOf (with_place r i place) (world.with_looker w i state)
  sits i place state same = record {
    noted = s.noted;
    below = s.below;
    all = s.all;
    told =
        map-set announced r.places i place
        ∙ ap (λ xs. set xs i (announced place)) s.told
        ∙ ap (set (map announced_by w.lookers) i) same
        ∙ sym (map-set announced_by w.lookers i state);
  }

  -- a place is taken or freed, of a looker that is offline
  pub joins : (i : ℕ) (place past : PlaceState) → announced place ≡ announced (get_or r.places i past) → IsRegistryOf (with_place r i place) w
  joins i place past same = record { noted = s.noted; below = s.below; all = s.all; told = map_set_same announced r.places i place past same ∙ s.told }

  -- ---- an event of a looker, by the state that the looker is in

  onlines : (i : ℕ) (state : LookerState) → IsRegistryOf (brought_online r i state) (world.go_online w i state).world
  onlines i offline = sits i (places.Online r.noted.count) (online w.noted None) (ap Some s.noted)
  onlines i (online announced held) = s

  -- what a looker fetches or looks up is nothing to the registry
  fetches : (i : ℕ) (state : LookerState) → looker_state w i ≡ state → IsRegistryOf r (world.fetch w i state).world
  fetches i offline is = s
  fetches i (online before held) is = record {
    noted = s.noted;
    below = s.below;
    all = s.all;
    told = s.told ∙ sym (map_set_same announced_by w.lookers i (online before (Some w.published)) offline (sym (ap announced_by is)));
  }

  announces : (i : ℕ) (state : LookerState) → IsRegistryOf (told_number r i state) (world.announce w i state).world
  announces i (online announced (Some held)) = sits i (places.Online held) (online held (Some held)) refl
  announces i state = s

  offlines : (i : ℕ) (state : LookerState) → IsRegistryOf (taken_offline r i state) (world.go_offline w i state).world
  offlines i offline = s
  offlines i (online announced held) = sits i places.Offline offline refl

  looks : (packet : _) (state : LookerState) → IsRegistryOf r (world.look w packet state).world
  looks packet offline = s
  looks packet (online announced None) = s
  looks packet (online announced (Some held)) = record { noted = s.noted; below = s.below; all = s.all; told = s.told }

going : (r : RegistryState) (w : World) (step : Step) → world.is_stopped w.phase ≡ false → IsRegistryOf r step.world → IsRegistryOf r (cond (world.is_stopped w.phase) (world.unmet w) step).world
going r w step is h = subst (λ b. IsRegistryOf r (cond b (world.unmet w) step).world) (sym is) h

-- an event of a looker, while the service runs
pub registers_beside : (r : RegistryState) (w : World) (event : Event) → is_lookers event ≡ true → world.is_stopped w.phase ≡ false → IsReached w → IsRegistryOf r w → IsRegistryOf (registry_after r w event) (step w event).world
registers_beside r w (events.Online i) is runs reached s = going (brought_online r i (looker_state w i)) w (world.go_online w i (looker_state w i)) runs (onlines r w s i (looker_state w i))
registers_beside r w (events.Fetch i) is runs reached s = going r w (world.fetch w i (looker_state w i)) runs (fetches r w s i (looker_state w i) refl)
registers_beside r w (events.Announce i) is runs reached s = going (told_number r i (looker_state w i)) w (world.announce w i (looker_state w i)) runs (announces r w s i (looker_state w i))
registers_beside r w (events.Offline i) is runs reached s = going (taken_offline r i (looker_state w i)) w (world.go_offline w i (looker_state w i)) runs (offlines r w s i (looker_state w i))
registers_beside r w (events.Look i packet) is runs reached s = going r w (world.look w packet (looker_state w i)) runs (looks r w s packet (looker_state w i))
registers_beside r w events.Reclaim is runs reached s = going (reclaimed r) w (world.reclaim w) runs (registers_reclaimed r w reached s)
registers_beside r w event is runs reached s = absurd cc
