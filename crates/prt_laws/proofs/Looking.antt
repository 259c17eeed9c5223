-- The registry's calls for lookers, and what they are in the world.
use Rattle.std.proofs.Common.{◌≡◌, ℕ, ◌+◌, ◌-◌, ◌<◌, Bool, true, false, List, [], ◌∷◌, Option, Some, None, length, length-append, get_or, set, refl, sym, ap, ◌∙◌, subst, arith, cond}
use Rattle.std.specs.Prelude.{◌==◌, if◌then◌else◌, IsSome, position, slice_get, unwrap_or}
use Rattle.std.proofs.lemmas.List.{get_or-map, get_or-set_same, length-map, set-get_or}
use Rattle.std.proofs.lemmas.List.Quantifiers.{position-Some}
use Rattle.std.proofs.lemmas.Option.{get_or_from_slice_get, slice_get_within}
use Rattle.sqlite.specs.Store.{Ghosts}
use Rattle.prt_grace.specs.Registry.{HasPlace, RegistryState, announced, announcing, is_free, reclaimed, with_place}
use Rattle.prt_grace.specs.declared.place.Place.{Place}
use Rattle.prt_grace.specs.declared.place.PlaceState.{PlaceState}
use Rattle.prt_grace.specs.declared.place.PlaceState.TheVariants as places
use Rattle.prt_version.specs.State.{State}
use Rattle.prt_replay.specs.World as world
use Rattle.prt_replay.specs.World.{LookerState, Step, World, announced_by, kept_versions, looker_state, offline, online, published_version, step}
use Rattle.prt_replay.specs.declared.event.Event.TheVariants as events
use Rattle.prt_replay.specs.declared.outcome.Outcome.TheVariants as outcomes
use Rattle.prt_laws.specs.Lookers.{EveryLookersEvent, IsAnnounce, IsJoin, IsOffline, IsOnline, IsPart, ShowsOnline, ShowsReclaimed, held_online, seat}
use Rattle.prt_laws.specs.Registries.{IsRegistryOf, brought_online, taken_offline, told_number}
use Rattle.prt_laws.specs.Publishers.{IsPublisherOf}
use Rattle.prt_laws.proofs.Joined.{stands_beside}
use Rattle.prt_laws.proofs.Opening.{open_moment}
use Rattle.prt_laws.proofs.Registering.{joins, registers_beside, registers_reclaimed, sits}

-- ---- places and lookers

seats_long : (r : RegistryState) (w : World) → IsRegistryOf r w → length r.places ≡ length w.lookers
seats_long r w s = sym (length-map r.places announced) ∙ ap length s.told ∙ length-map w.lookers announced_by

-- the world has a looker for the place
has_looker : (r : RegistryState) (w : World) (place : Place) → IsRegistryOf r w → HasPlace r place → place.index < length w.lookers
has_looker r w place s has =
    let within : place.index < length r.places = slice_get_within r.places place.index (announcing place.announced) has.1 in
    let long = seats_long r w s in
    omega arith

set_same : {X : Type 0} (xs : List X) (i : ℕ) (x : X) → slice_get xs i ≡ Some x → set xs i x ≡ xs
set_same xs i x is = ap (set xs i) (sym (get_or_from_slice_get xs i x x is)) ∙ set-get_or xs i x

-- a looker's event of a world that runs
pub runs : (w : World) (s : Step) → world.is_stopped w.phase ≡ false → cond (world.is_stopped w.phase) (world.unmet w) s ≡ s
runs w s is = ap (λ b. cond b (world.unmet w) s) is

pub sits_there : (w : World) (i : ℕ) (state : LookerState) → i < length w.lookers → looker_state (world.with_looker w i state) i ≡ state
sits_there w i state within = get_or-set_same w.lookers i state offline within

module _ (r new : RegistryState) (before place : Place) (has : HasPlace r before) where
  -- a looker sits where its place says, once both have moved
  sits_then : (s t : Step) (told holds : Option ℕ) → place ≡ record before { announced = told } → s ≡ t → looker_state t.world before.index ≡ seat told holds → looker_state s.world place.index ≡ seat place.announced holds
  sits_then s t told holds moved to sat = ap (λ (p : Place). looker_state s.world p.index) moved ∙ ap (λ (x : Step). looker_state x.world before.index) to ∙ sat ∙ sym (ap (λ (p : Place). seat p.announced holds) moved)

  -- ---- online

  pub onlined : (told : Option ℕ) (number : ℕ) → before.announced ≡ told → number ≡ unwrap_or told r.noted.count → place ≡ record before { announced = Some number } → new ≡ with_place r before.index (places.Online number) → IsOnline r new before place
  onlined None number is counted moved registry held w going s sat =
      let was : looker_state w before.index ≡ offline = sat ∙ ap (λ a. seat a held) is in
      let noted : number ≡ w.noted = counted ∙ s.noted in
      let to : step w (events.Online before.index) ≡ world.go_online w before.index offline = runs w (world.go_online w before.index (looker_state w before.index)) going ∙ ap (world.go_online w before.index) was in (
        registry ∙ ap (λ n. with_place r before.index (places.Online n)) counted ∙ sym (ap (brought_online r before.index) was),
        sits_then (step w (events.Online before.index)) (world.go_online w before.index offline) (Some number) (held_online before.announced held) moved to
            (sits_there w before.index (online w.noted None) (has_looker r w before s has) ∙ ap (λ n. online n None) (sym noted) ∙ sym (ap (λ a. seat (Some number) (held_online a held)) is)),
      )
  onlined (Some told) number is counted moved registry held w going s sat =
      let was : looker_state w before.index ≡ online told held = sat ∙ ap (λ a. seat a held) is in
      let to : step w (events.Online before.index) ≡ world.go_online w before.index (online told held) = runs w (world.go_online w before.index (looker_state w before.index)) going ∙ ap (world.go_online w before.index) was in
      let there : slice_get r.places before.index ≡ Some (places.Online number) = has.1 ∙ ap (λ a. Some (announcing a)) is ∙ ap (λ n. Some (places.Online n)) (sym counted) in (
        registry ∙ ap (λ (ps : List PlaceState). record r { places = ps }) (set_same r.places before.index (places.Online number) there) ∙ sym (ap (brought_online r before.index) was),
        sits_then (step w (events.Online before.index)) (world.go_online w before.index (online told held)) (Some number) (held_online before.announced held) moved to
            (was ∙ ap (λ n. online n held) (sym counted) ∙ sym (ap (λ a. seat (Some number) (held_online a held)) is)),
      )

  pub online_shows : (number : ℕ) → number ≡ unwrap_or before.announced r.noted.count → ShowsOnline r new before place number
  online_shows number counted w going s sat none =
      let was : looker_state w before.index ≡ offline = sat ∙ ap (λ a. seat a None) none in
      let noted : number ≡ w.noted = counted ∙ ap (λ a. unwrap_or a r.noted.count) none ∙ s.noted in
      let to : step w (events.Online before.index) ≡ world.go_online w before.index offline = runs w (world.go_online w before.index (looker_state w before.index)) going ∙ ap (world.go_online w before.index) was in
      ap (λ (t : Step). t.outcome) to ∙ ap (outcomes.Online before.index) (sym noted)

  -- ---- announce

  pub announced_it : (told number : ℕ) → before.announced ≡ Some told → place ≡ record before { announced = Some number } → new ≡ with_place r before.index (places.Online number) → IsAnnounce r new before place number
  announced_it told number is moved registry w going s sat =
      let was : looker_state w before.index ≡ online told (Some number) = sat ∙ ap (λ a. seat a (Some number)) is in
      let to : step w (events.Announce before.index) ≡ world.announce w before.index (online told (Some number)) = runs w (world.announce w before.index (looker_state w before.index)) going ∙ ap (world.announce w before.index) was in (
        registry ∙ sym (ap (told_number r before.index) was),
        sits_then (step w (events.Announce before.index)) (world.announce w before.index (online told (Some number))) (Some number) (Some number) moved to (sits_there w before.index (online number (Some number)) (has_looker r w before s has)),
      )

  pub announces : (number : ℕ) (told : Option ℕ) → before.announced ≡ told → IsSome before.announced → place ≡ record before { announced = Some number } → new ≡ with_place r before.index (places.Online number) → IsAnnounce r new before place number
  announces number None is some moved registry = absurd (let e : false ≡ true = subst IsSome is some in cc)
  announces number (Some told) is some moved registry = announced_it told number is moved registry

  -- ---- offline

  pub offlined : (told : Option ℕ) → before.announced ≡ told → place ≡ record before { announced = None } → new ≡ with_place r before.index places.Offline → IsOffline r new before place
  offlined None is moved registry held w going s sat =
      let was : looker_state w before.index ≡ offline = sat ∙ ap (λ a. seat a held) is in
      let to : step w (events.Offline before.index) ≡ world.go_offline w before.index offline = runs w (world.go_offline w before.index (looker_state w before.index)) going ∙ ap (world.go_offline w before.index) was in
      let there : slice_get r.places before.index ≡ Some places.Offline = has.1 ∙ ap (λ a. Some (announcing a)) is in (
        registry ∙ ap (λ (ps : List PlaceState). record r { places = ps }) (set_same r.places before.index places.Offline there) ∙ sym (ap (taken_offline r before.index) was),
        sits_then (step w (events.Offline before.index)) (world.go_offline w before.index offline) None None moved to was,
      )
  offlined (Some told) is moved registry held w going s sat =
      let was : looker_state w before.index ≡ online told held = sat ∙ ap (λ a. seat a held) is in
      let to : step w (events.Offline before.index) ≡ world.go_offline w before.index (online told held) = runs w (world.go_offline w before.index (looker_state w before.index)) going ∙ ap (world.go_offline w before.index) was in (
        registry ∙ sym (ap (taken_offline r before.index) was),
        sits_then (step w (events.Offline before.index)) (world.go_offline w before.index (online told held)) None None moved to (sits_there w before.index offline (has_looker r w before s has)),
      )

-- ---- join and part

offline_by : (state : LookerState) → announced_by state ≡ None → state ≡ offline
offline_by offline is = refl
offline_by (online told held) is = absurd cc

free_by : (place : PlaceState) → is_free place ≡ true → announced place ≡ None
free_by places.Free is = refl
free_by places.Offline is = refl
free_by (places.Online number) is = absurd cc

pub joined : (r new : RegistryState) (place : Place) → position is_free r.places ≡ Some place.index → place.announced ≡ None → new ≡ with_place r place.index places.Offline → IsJoin r new place
joined r new place found none registry w s =
    let free = position-Some is_free r.places place.index places.Free found in
    let long = seats_long r w s in
    let within : place.index < length w.lookers = omega (arith, free.0) in
    let told : announced (get_or r.places place.index places.Free) ≡ None = free_by (get_or r.places place.index places.Free) free.1 in
    let same : announced_by (looker_state w place.index) ≡ None =
    sym (get_or-map announced_by w.lookers place.index offline None within)
    ∙ ap (λ xs. get_or xs place.index None) (sym s.told)
    ∙ get_or-map announced r.places place.index places.Free None free.0
    ∙ told in (
      subst (λ (q : RegistryState). IsRegistryOf q w) (sym registry) (joins r w s place.index places.Offline places.Free (sym told)),
      offline_by (looker_state w place.index) same ∙ sym (ap (λ a. seat a None) none),
    )

pub parted : (r new : RegistryState) (place : Place) → HasPlace r place → (told : Option ℕ) → place.announced ≡ told → new ≡ with_place r place.index places.Free → IsPart r new place
parted r new place has None is registry held w going s sat =
    let was : looker_state w place.index ≡ offline = sat ∙ ap (λ a. seat a held) is in
    let to : step w (events.Offline place.index) ≡ world.go_offline w place.index offline = runs w (world.go_offline w place.index (looker_state w place.index)) going ∙ ap (world.go_offline w place.index) was in
    let told : announced (get_or r.places place.index places.Free) ≡ None = ap announced (get_or_from_slice_get r.places place.index (announcing place.announced) places.Free has.1) ∙ ap (λ a. announced (announcing a)) is in (
      subst (λ (q : RegistryState). IsRegistryOf q (step w (events.Offline place.index)).world) (sym registry)
          (subst (λ (t : Step). IsRegistryOf (with_place r place.index places.Free) t.world) (sym to) (joins r w s place.index places.Free places.Free (sym told))),
      ap (λ (t : Step). looker_state t.world place.index) to ∙ was,
    )
parted r new place has (Some told) is registry held w going s sat =
    let was : looker_state w place.index ≡ online told held = sat ∙ ap (λ a. seat a held) is in
    let to : step w (events.Offline place.index) ≡ world.go_offline w place.index (online told held) = runs w (world.go_offline w place.index (looker_state w place.index)) going ∙ ap (world.go_offline w place.index) was in (
      subst (λ (q : RegistryState). IsRegistryOf q (step w (events.Offline place.index)).world) (sym registry)
          (subst (λ (t : Step). IsRegistryOf (with_place r place.index places.Free) t.world) (sym to) (sits r w s place.index places.Free offline refl)),
      ap (λ (t : Step). looker_state t.world place.index) to ∙ sits_there w place.index offline (has_looker r w place s has),
    )

-- ---- reclaim

tops_long : (first second third : State) (b : Bool) → length (first ∷ (if b then [] else second ∷ [])) ≡ length (first ∷ (if b then [] else third ∷ []))
tops_long first second third true = refl
tops_long first second third false = refl

pub reclaim_shows : (r new : RegistryState) (number : ℕ) → new ≡ reclaimed r → number + length new.retired ≡ length r.retired → ShowsReclaimed r number
reclaim_shows r new number is sum w going reached s =
    let counted : number + length (reclaimed r).retired ≡ length r.retired = subst (λ (q : RegistryState). number + length q.retired ≡ length r.retired) is sum in
    let after : IsRegistryOf (reclaimed r) (world.reclaim w).world = registers_reclaimed r w reached s in
    let top = r.noted ∷ (if w.noted == w.published then [] else published_version w ∷ []) in
    let other = r.noted ∷ (if w.noted == w.published then [] else published_version (world.reclaim w).world ∷ []) in
    let same : length top ≡ length other = tops_long r.noted (published_version w) (published_version (world.reclaim w).world) (w.noted == w.published) in
    let had : length w.versions ≡ length r.retired + length top = ap length s.all ∙ length-append r.retired top in
    let has : length (kept_versions w) ≡ length (reclaimed r).retired + length other = ap length after.all ∙ length-append (reclaimed r).retired other in
    let gone : length w.versions - length (kept_versions w) ≡ number = omega (arith, counted, same, had, has) in
    ap (λ (t : Step). t.outcome) (runs w (world.reclaim w) going) ∙ ap outcomes.Reclaimed gone

-- ---- every event of a looker

pub lookers_event : {S : Type 0} (g : Ghosts S) → EveryLookersEvent g
lookers_event g p r w event is h =
    let s : IsPublisherOf g p w = h.0 in
    let going : world.is_stopped w.phase ≡ false = ap world.is_stopped s.place.moment ∙ open_moment p.phase p.commands in
    (stands_beside g p w event is s, registers_beside r w event is going s.place.reached h.1)
