-- Lookers that join a registry one after another.
use Rattle.std.proofs.Common.{◌≡◌, ℕ, zero, suc, ◌+◌, ◌-◌, ◌<◌, true, List, [], ◌∷◌, ◌++◌, Some, None, length, map, get_or, set, replicate, refl, sym, ap, ◌∙◌, subst, arith, inl, inr, cond}
use Rattle.std.specs.Prelude.{position, nat_lt}
use Rattle.std.specs.List.{position_or_len}
use Rattle.std.proofs.lemmas.Bool.{cases_eq}
use Rattle.std.proofs.lemmas.Bool.Decides.{nat_tests}
use Rattle.std.proofs.lemmas.List.{append-nil, get_or_append_left, get_or_push, length-append, length-replicate, map-append, set_at}
use Rattle.prt_grace.specs.Registry.{announcing, is_free}
use Rattle.prt_grace.specs.declared.limits.TheConstants.{PLACES}
use Rattle.prt_grace.specs.declared.place.PlaceState.{PlaceState}
use Rattle.prt_grace.specs.declared.place.PlaceState.TheVariants.{Free, Offline}
use Rattle.prt_grace.specs.Registry.{RegistryState, with_place}
use Rattle.prt_grace.specs.declared.place.Place.{Place}
use Rattle.prt_version.specs.State.{State}
use Rattle.prt_replay.specs.Machine.{AreSeated, SeatState, empty_seat, new_lookers, offline_place, seats_below}
use Rattle.prt_replay.proofs.Seats.{lookers_of}

-- so many places are taken, and so many are free
abbrev pub taken_places : ℕ → ℕ → List PlaceState
taken_places taken free = replicate taken Offline ++ replicate free Free

first_place : (taken : ℕ) (rest : List PlaceState) → position_or_len is_free (replicate taken Offline ++ Free ∷ rest) ≡ taken
first_place zero rest = refl
first_place (suc taken) rest = let before : position_or_len is_free (replicate taken Offline ++ Free ∷ rest) ≡ taken = first_place taken rest in omega arith

taken_length : (taken free : ℕ) → length (taken_places taken free) ≡ taken + free
taken_length taken free = length-append (replicate taken Offline) (replicate free Free) ∙ ap (λ n. n + length (replicate free Free)) (length-replicate taken Offline) ∙ ap (λ n. taken + n) (length-replicate free Free)

-- the first free place
pub free_place : (taken free : ℕ) → position is_free (taken_places taken (suc free)) ≡ Some taken
free_place taken free =
    let first : position_or_len is_free (taken_places taken (suc free)) ≡ taken = first_place taken (replicate free Free) in
    let long : length (taken_places taken (suc free)) ≡ taken + suc free = taken_length taken (suc free) in
    let inside : nat_lt taken (length (taken_places taken (suc free))) ≡ true = grind (arith, nat_tests) in
    ap (λ n. cond (nat_lt n (length (taken_places taken (suc free)))) (Some n) None) first ∙ ap (λ b. cond b (Some taken) None) inside

one_more_taken : (taken : ℕ) (rest : List PlaceState) → replicate taken Offline ++ Offline ∷ rest ≡ replicate (suc taken) Offline ++ rest
one_more_taken zero rest = refl
one_more_taken (suc taken) rest = ap (λ xs. Offline ∷ xs) (one_more_taken taken rest)

-- the places after it is taken
pub place_taken : (taken free : ℕ) → set (taken_places taken (suc free)) taken Offline ≡ taken_places (suc taken) free
place_taken taken free = set_at (replicate taken Offline) Free (replicate free Free) Offline taken (length-replicate taken Offline) ∙ one_more_taken taken (replicate free Free)

-- ---- their seats

pub seats_length : (n : ℕ) → length (seats_below n) ≡ n
unfolding seats_below
seats_length zero = refl
seats_length (suc n) = let before : length (seats_below n) ≡ n = seats_length n in omega (arith, length-append (seats_below n) (empty_seat n ∷ []))

pub seats_placed : (n : ℕ) → map (λ seat. announcing seat.place.announced) (seats_below n) ≡ replicate n Offline
unfolding seats_below
seats_placed zero = refl
seats_placed (suc n) =
    map-append (λ (seat : SeatState). announcing seat.place.announced) (seats_below n) (empty_seat n ∷ [])
    ∙ ap (λ xs. xs ++ Offline ∷ []) (seats_placed n)
    ∙ one_more_taken n []
    ∙ append-nil (replicate (suc n) Offline)

pub seats_numbered : (n i : ℕ) (past : SeatState) → i < n → (get_or (seats_below n) i past).place.index ≡ i
unfolding seats_below
seats_numbered zero i past within = absurd (omega arith)
seats_numbered (suc n) i past within =
    let long : length (seats_below n) ≡ n = seats_length n in
    elim (cases_eq i n) [
      | inl last ↦ ap (λ m. (get_or (seats_below n ++ empty_seat n ∷ []) m past).place.index) last ∙ ap (λ seat. seat.place.index) (get_or_push (seats_below n) (empty_seat n) past n long) ∙ sym last
      | inr other ↦ ap (λ seat. seat.place.index) (get_or_append_left (seats_below n) (empty_seat n ∷ []) past i (omega arith)) ∙ seats_numbered n i past (omega arith)
    ]

-- ---- the loop

-- so many lookers have joined
abbrev pub joined : State → ℕ → RegistryState
joined state taken = record { noted = state; retired = []; places = taken_places taken (PLACES - taken) }

left_over : (taken : ℕ) → taken < PLACES → PLACES - taken ≡ suc (PLACES - (taken + 1))
left_over taken within = omega arith

found_place : (places : List PlaceState) (taken : ℕ) → taken < PLACES → places ≡ taken_places taken (PLACES - taken) → position is_free places ≡ Some taken
found_place places taken within are = ap (position is_free) (are ∙ ap (taken_places taken) (left_over taken within)) ∙ free_place taken (PLACES - (taken + 1))

pub has_place : (registry : RegistryState) (state : State) (taken : ℕ) → taken < PLACES → registry ≡ joined state taken → position is_free registry.places ≡ None → ⊥
has_place registry state taken within is none =
    let found : position is_free registry.places ≡ Some taken = found_place registry.places taken within (ap (λ r. r.places) is) in
    cc

pub joins : (registry after : RegistryState) (state : State) (taken : ℕ) (place : Place) → taken < PLACES → registry ≡ joined state taken → position is_free registry.places ≡ Some place.index → after ≡ with_place registry place.index Offline → after ≡ joined state (taken + 1)
joins registry after state taken place within is found put =
    let first : position is_free registry.places ≡ Some taken = found_place registry.places taken within (ap (λ r. r.places) is) in
    let index : place.index ≡ taken = cc in
    let more : suc taken ≡ taken + 1 = omega arith in
    put
    ∙ ap (λ n. with_place registry n Offline) index
    ∙ ap (λ r. with_place r taken Offline) (is ∙ ap (λ free. record { noted = state; retired = []; places = taken_places taken free }) (left_over taken within))
    ∙ ap (λ places. record { noted = state; retired = []; places = places }) (place_taken taken (PLACES - (taken + 1)) ∙ ap (λ n. taken_places n (PLACES - (taken + 1))) more)

place_by : (place : Place) (taken : ℕ) → place.index ≡ taken → place.announced ≡ None → place ≡ offline_place taken
place_by place taken index announced = ap (λ o. record { index = place.index; announced = o }) announced ∙ ap offline_place index

pub sits_down : (registry : RegistryState) (state : State) (seats after : List SeatState) (taken : ℕ) (place : Place) → taken < PLACES → registry ≡ joined state taken → position is_free registry.places ≡ Some place.index → place.announced ≡ None → seats ≡ seats_below taken → after ≡ seats ++ record { place = place; held = None } ∷ [] → after ≡ seats_below (taken + 1)
unfolding seats_below
sits_down registry state seats after taken place within is found announced before pushed =
    let first : position is_free registry.places ≡ Some taken = found_place registry.places taken within (ap (λ r. r.places) is) in
    let index : place.index ≡ taken = cc in
    let more : suc taken ≡ taken + 1 = omega arith in
    pushed
    ∙ ap (λ xs. xs ++ record { place = place; held = None } ∷ []) before
    ∙ ap (λ p. seats_below taken ++ record { place = p; held = None } ∷ []) (place_by place taken index announced)
    ∙ ap seats_below more

all_joined : (state : State) (taken : ℕ) → taken ≡ PLACES → joined state taken ≡ (new_lookers state).registry
all_joined state taken all = ap (joined state) all ∙ ap (λ places. record { noted = state; retired = []; places = places }) (append-nil (replicate PLACES Offline))

pub all_sit : (registry : RegistryState) (state : State) (seats : List SeatState) (taken : ℕ) → taken ≡ PLACES → registry ≡ joined state taken → seats ≡ seats_below taken → lookers_of registry seats ≡ new_lookers state
all_sit registry state seats taken all is are = ap (λ r. lookers_of r seats) (is ∙ all_joined state taken all) ∙ ap (lookers_of (new_lookers state).registry) (are ∙ ap seats_below all)

new_seated : (state : State) → AreSeated (new_lookers state).registry (new_lookers state).seats
new_seated state = record { all = seats_length PLACES; placed = sym (seats_placed PLACES); numbered = λ i past within. seats_numbered PLACES i past within }

pub all_seated : (registry : RegistryState) (state : State) (seats : List SeatState) (taken : ℕ) → taken ≡ PLACES → registry ≡ joined state taken → seats ≡ seats_below taken → AreSeated registry seats
all_seated registry state seats taken all is are = subst (λ l. AreSeated l.registry l.seats) (sym (all_sit registry state seats taken all is are)) (new_seated state)
