-- Lookers that change their places.
use Rattle.std.proofs.Common.{◌≡◌, ℕ, ◌<◌, List, Option, length, map, get_or, set, sym, ap, ◌∙◌, subst, arith, inl, inr}
use Rattle.std.proofs.lemmas.Bool.{cases_eq}
use Rattle.std.proofs.lemmas.List.{get_or-set_other, get_or-set_same, get_or_read, length-set, map-set, set-get_or}
use Rattle.prt_grace.specs.Registry.{RegistryState, announcing, with_place}
use Rattle.prt_grace.specs.declared.limits.TheConstants.{PLACES}
use Rattle.prt_grace.specs.declared.place.Place.{Place}
use Rattle.prt_version.specs.State.{State}
use Rattle.prt_replay.specs.Machine.{AreSeated, LookersState, SeatState, empty_seat, hold, seat_of, sit}

abbrev pub seat_by : Place → Option State → SeatState
seat_by place held = record { place = place; held = held }

abbrev pub lookers_of : RegistryState → List SeatState → LookersState
lookers_of registry seats = record { registry = registry; seats = seats }

both : (r s : RegistryState) (xs ys : List SeatState) → r ≡ s → xs ≡ ys → lookers_of r xs ≡ lookers_of s ys
both r s xs ys e f = ap (λ x. lookers_of x xs) e ∙ ap (lookers_of s) f

-- A looker's seat, under the number of the looker.
pub record IsSeat (registry : RegistryState) (seats : List SeatState) (i looker : ℕ) (seat : SeatState) : Type 0 where
  pub seated : AreSeated registry seats
  pub same : i ≡ looker
  pub within : i < PLACES
  pub is : seat ≡ get_or seats i seat

-- the seat that was read
pub read : (registry : RegistryState) (seats : List SeatState) (i looker : ℕ) (inside seat : SeatState) → AreSeated registry seats → i ≡ looker → i < PLACES → inside ≡ seat → seat ≡ get_or seats i seat → IsSeat registry seats i looker inside
read registry seats i looker inside seat seated same within shown is = record { seated = seated; same = same; within = within; is = subst (λ s. s ≡ get_or seats i s) (sym shown) is }

index_is : (registry : RegistryState) (seats : List SeatState) (i looker : ℕ) (seat : SeatState) → IsSeat registry seats i looker seat → seat.place.index ≡ i
index_is registry seats i looker seat h = ap (λ s. s.place.index) h.is ∙ h.seated.numbered i seat h.within

numbered_after : (registry : RegistryState) (seats : List SeatState) (i : ℕ) (new : SeatState) → AreSeated registry seats → i < PLACES → new.place.index ≡ i → (k : ℕ) (past : SeatState) → k < PLACES → (get_or (set seats i new) k past).place.index ≡ k
numbered_after registry seats i new seated within same k past inside =
    let long : length seats ≡ PLACES = seated.all in
    elim (cases_eq k i) [
      | inl here ↦ ap (λ n. (get_or (set seats i new) n past).place.index) here ∙ ap (λ s. s.place.index) (get_or-set_same seats i new past (omega arith)) ∙ same ∙ sym here
      | inr other ↦ ap (λ s. s.place.index) (get_or-set_other seats i k new past other) ∙ seated.numbered k past inside
    ]

-- each looker still has the place of its number
pub seated_after : (registry after : RegistryState) (seats : List SeatState) (i looker : ℕ) (seat : SeatState) (place : Place) (announced : Option ℕ) (held : Option State) → IsSeat registry seats i looker seat → place ≡ record seat.place { announced = announced } → after ≡ with_place registry seat.place.index (announcing announced) → AreSeated after (set seats i (seat_by place held))
seated_after registry after seats i looker seat place announced held h told put =
    let index : seat.place.index ≡ i = index_is registry seats i looker seat h in
    record {
      all = length-set seats i (seat_by place held) ∙ h.seated.all;
      placed =
          ap (λ r. r.places) put
          ∙ ap (λ n. set registry.places n (announcing announced)) index
          ∙ ap (λ ps. set ps i (announcing announced)) h.seated.placed
          ∙ ap (λ p. set (map (λ s. announcing s.place.announced) seats) i (announcing p.announced)) (sym told)
          ∙ sym (map-set (λ s. announcing s.place.announced) seats i (seat_by place held));
      numbered = numbered_after registry seats i (seat_by place held) h.seated h.within (ap (λ p. p.index) told ∙ index);
    }

seat_is : (registry : RegistryState) (seats : List SeatState) (i looker : ℕ) (seat : SeatState) → IsSeat registry seats i looker seat → seat ≡ seat_of (lookers_of registry seats) looker
seat_is registry seats i looker seat h =
    let long : length seats ≡ PLACES = h.seated.all in
    let within : i < PLACES = h.within in
    get_or_read seats i seat (omega arith) h.is (empty_seat looker) ∙ ap (λ n. get_or seats n (empty_seat looker)) h.same

-- the lookers after one of them changed
pub sits : (registry after : RegistryState) (seats : List SeatState) (i looker : ℕ) (seat : SeatState) (place : Place) (announced : Option ℕ) (held : Option State) → IsSeat registry seats i looker seat → place ≡ record seat.place { announced = announced } → after ≡ with_place registry seat.place.index (announcing announced) → lookers_of after (set seats i (seat_by place held)) ≡ sit (lookers_of registry seats) looker announced held
sits registry after seats i looker seat place announced held h told put =
    let index : seat.place.index ≡ i = index_is registry seats i looker seat h in
    let here : seat ≡ seat_of (lookers_of registry seats) looker = seat_is registry seats i looker seat h in
    let new : Place = record (seat_of (lookers_of registry seats) looker).place { announced = announced } in
    both after (with_place registry looker (announcing announced)) (set seats i (seat_by place held)) (set seats looker (seat_by new held))
    (put ∙ ap (λ n. with_place registry n (announcing announced)) (index ∙ h.same))
    (ap (λ n. set seats n (seat_by place held)) h.same ∙ ap (λ p. set seats looker (seat_by p held)) (told ∙ ap (λ s. record s.place { announced = announced }) here))

same_at : {X Y : Type 0} (f : X → Y) (xs : List X) (i : ℕ) (x : X) → x ≡ get_or xs i x → set (map f xs) i (f x) ≡ map f xs
same_at f xs i x is = sym (map-set f xs i x) ∙ ap (map f) (ap (set xs i) is ∙ set-get_or xs i x)

-- what a looker holds changes
pub held_after : (registry : RegistryState) (seats : List SeatState) (i looker : ℕ) (seat : SeatState) (held : Option State) → IsSeat registry seats i looker seat → AreSeated registry (set seats i (seat_by seat.place held))
held_after registry seats i looker seat held h =
    let within : i < PLACES = h.within in
    let long : length seats ≡ PLACES = h.seated.all in
    record {
      all = length-set seats i (seat_by seat.place held) ∙ h.seated.all;
      placed =
          h.seated.placed
          ∙ sym (same_at (λ s. announcing s.place.announced) seats i seat h.is)
          ∙ sym (map-set (λ s. announcing s.place.announced) seats i (seat_by seat.place held));
      numbered = numbered_after registry seats i (seat_by seat.place held) h.seated h.within (index_is registry seats i looker seat h);
    }

pub holds : (registry : RegistryState) (seats : List SeatState) (i looker : ℕ) (seat : SeatState) (held : Option State) → IsSeat registry seats i looker seat → lookers_of registry (set seats i (seat_by seat.place held)) ≡ hold (lookers_of registry seats) looker held
holds registry seats i looker seat held h =
    ap (λ xs. lookers_of registry xs) (ap (λ n. set seats n (seat_by seat.place held)) h.same ∙ ap (λ s. set seats looker (seat_by s.place held)) (seat_is registry seats i looker seat h))
