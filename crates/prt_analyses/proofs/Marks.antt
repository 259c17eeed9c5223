-- Marks at places, and what is left unmarked.
use Rattle.std.proofs.Common.{◌≡◌, ◌⊎◌, inl, inr, ℕ, zero, suc, ◌<◌, Bool, true, false, List, [], ◌∷◌, ◌++◌, Option, Some, None, length, get_or, set, refl, sym, ap, ◌∙◌, arith, get_or-set_same, length-set}
use Rattle.std.specs.Prelude.{map}
use Rattle.std.specs.List.{AllByRecursion as Each}
use Rattle.prt_addr.specs.Rising.{IsRising}
use Rattle.prt_rule.specs.declared.packet.Packet.{Packet}
use Rattle.prt_partition.proofs.Starts.{IsIn}
use Rattle.prt_analyses.specs.Unused.Steps.{mark_at, marked, unmarked}

-- ---- one mark

set_stays : (flags : List Bool) (j k : ℕ) → get_or flags k false ≡ true → get_or (set flags j true) k false ≡ true
set_stays [] j k h = absurd cc
set_stays (flag ∷ flags) zero zero h = refl
set_stays (flag ∷ flags) zero (suc k) h = h
set_stays (flag ∷ flags) (suc j) zero h = h
set_stays (flag ∷ flags) (suc j) (suc k) h = set_stays flags j k h

set_alone : (flags : List Bool) (j k : ℕ) → get_or (set flags j true) k false ≡ true → (j ≡ k) ⊎ (get_or flags k false ≡ true)
set_alone [] j k h = absurd cc
set_alone (flag ∷ flags) zero zero h = inl refl
set_alone (flag ∷ flags) zero (suc k) h = inr h
set_alone (flag ∷ flags) (suc j) zero h = inr h
set_alone (flag ∷ flags) (suc j) (suc k) h = more (set_alone flags j k h)
  where
    more : (j ≡ k) ⊎ (get_or flags k false ≡ true) → (suc j ≡ suc k) ⊎ (get_or flags k false ≡ true)
    more (inl is) = inl (ap suc is)
    more (inr old) = inr old

stays : (flags : List Bool) (o : Option ℕ) (k : ℕ) → get_or flags k false ≡ true → get_or (mark_at flags o) k false ≡ true
stays flags None k h = h
stays flags (Some j) k h = set_stays flags j k h

alone : (flags : List Bool) (o : Option ℕ) (k : ℕ) → get_or (mark_at flags o) k false ≡ true → (o ≡ Some k) ⊎ (get_or flags k false ≡ true)
alone flags None k h = inr h
alone flags (Some j) k h = more (set_alone flags j k h)
  where
    more : (j ≡ k) ⊎ (get_or flags k false ≡ true) → (◌≡◌ {A = Option ℕ} (Some j) (Some k)) ⊎ (get_or flags k false ≡ true)
    more (inl is) = inl (ap Some is)
    more (inr old) = inr old

pub length_mark : (flags : List Bool) (o : Option ℕ) → length (mark_at flags o) ≡ length flags
length_mark flags None = refl
length_mark flags (Some j) = length-set flags j true

-- ---- the marks of packets

none_marked : {X : Type 0} (xs : List X) (k : ℕ) → get_or (map (λ x. false) xs) k false ≡ false
none_marked [] k = refl
none_marked (x ∷ xs) zero = refl
none_marked (x ∷ xs) (suc k) = none_marked xs k

module _ (place : Packet → Option ℕ) where
  pub length_marked : (flags : List Bool) (packets : List Packet) → length (marked place flags packets) ≡ length flags
  length_marked flags [] = refl
  length_marked flags (packet ∷ packets) = length_marked (mark_at flags (place packet)) packets ∙ length_mark flags (place packet)

  -- those of two lists of packets
  pub marked_both : (flags : List Bool) (xs ys : List Packet) → marked place flags (xs ++ ys) ≡ marked place (marked place flags xs) ys
  marked_both flags [] ys = refl
  marked_both flags (x ∷ xs) ys = marked_both (mark_at flags (place x)) xs ys

  all_stay : (flags : List Bool) (packets : List Packet) (k : ℕ) → get_or flags k false ≡ true → get_or (marked place flags packets) k false ≡ true
  all_stay flags [] k h = h
  all_stay flags (packet ∷ packets) k h = all_stay (mark_at flags (place packet)) packets k (stays flags (place packet) k h)

  -- the place of each packet is marked
  pub each_marked : (flags : List Bool) (packets : List Packet) (packet : Packet) (k : ℕ) → IsIn packet packets → place packet ≡ Some k → k < length flags → get_or (marked place flags packets) k false ≡ true
  each_marked flags [] packet k h at inside = absurd h
  each_marked flags (other ∷ packets) packet k (inl is) at inside =
      all_stay (mark_at flags (place other)) packets k
      (ap (λ o. get_or (mark_at flags o) k false) (ap place (sym is) ∙ at) ∙ get_or-set_same flags k true false inside)
  each_marked flags (other ∷ packets) packet k (inr h) at inside =
      each_marked (mark_at flags (place other)) packets packet k h at (let e : length (mark_at flags (place other)) ≡ length flags = length_mark flags (place other) in omega arith)

  abbrev IsPlaced : List Packet → ℕ → Type 0
  IsPlaced packets k = (packet : Packet) × IsIn packet packets × (place packet ≡ Some k)

  -- and no other
  only_marked : (flags : List Bool) (packets : List Packet) (k : ℕ) → get_or (marked place flags packets) k false ≡ true → (get_or flags k false ≡ true) ⊎ IsPlaced packets k
  only_marked flags [] k h = inl h
  only_marked flags (packet ∷ packets) k h = later (only_marked (mark_at flags (place packet)) packets k h)
    where
      here : (place packet ≡ Some k) ⊎ (get_or flags k false ≡ true) → (get_or flags k false ≡ true) ⊎ IsPlaced (packet ∷ packets) k
      here (inl at) = inr (packet, inl refl, at)
      here (inr old) = inl old

      later : (get_or (mark_at flags (place packet)) k false ≡ true) ⊎ IsPlaced packets k → (get_or flags k false ≡ true) ⊎ IsPlaced (packet ∷ packets) k
      later (inl set) = here (alone flags (place packet) k set)
      later (inr placed) = inr (placed.0, inr placed.1, placed.2)

  -- where nothing was marked before
  pub from_packet : {X : Type 0} (xs : List X) (packets : List Packet) (k : ℕ) → get_or (marked place (map (λ x. false) xs) packets) k false ≡ true → (packet : Packet) × IsIn packet packets × (place packet ≡ Some k)
  from_packet xs packets k h = by (only_marked (map (λ x. false) xs) packets k h)
    where
      by : (get_or (map (λ x. false) xs) k false ≡ true) ⊎ IsPlaced packets k → (packet : Packet) × IsIn packet packets × (place packet ≡ Some k)
      by (inl set) = absurd (let e : false ≡ true = sym (none_marked xs k) ∙ set in cc)
      by (inr placed) = placed

-- ---- what is left

pub each_unmarked : {X : Type 0} (P : X → Type 0) (xs : List X) (flags : List Bool) → Each P xs → Each P (unmarked xs flags)
each_unmarked P [] flags h = tt
each_unmarked P (x ∷ xs) [] h = (h.0, each_unmarked P xs [] h.1)
each_unmarked P (x ∷ xs) (true ∷ flags) h = each_unmarked P xs flags h.1
each_unmarked P (x ∷ xs) (false ∷ flags) h = (h.0, each_unmarked P xs flags h.1)

pub unmarked_rises : {X : Type 0} (before : X → X → Bool) (xs : List X) (flags : List Bool) → IsRising before xs → IsRising before (unmarked xs flags)
unmarked_rises before [] flags rises = tt
unmarked_rises before (x ∷ xs) [] rises = (each_unmarked (λ other. before x other ≡ true) xs [] rises.0, unmarked_rises before xs [] rises.1)
unmarked_rises before (x ∷ xs) (true ∷ flags) rises = unmarked_rises before xs flags rises.1
unmarked_rises before (x ∷ xs) (false ∷ flags) rises = (each_unmarked (λ other. before x other ≡ true) xs flags rises.0, unmarked_rises before xs flags rises.1)

abbrev IsLeftAt : {X : Type 0} → List X → List Bool → X → Type 0
IsLeftAt xs flags x = (k : ℕ) × (k < length xs) × (get_or xs k x ≡ x) × (get_or flags k false ≡ false)

left_later : {X : Type 0} (y : X) (xs : List X) (flag : Bool) (flags : List Bool) (x : X) → IsLeftAt xs flags x → IsLeftAt (y ∷ xs) (flag ∷ flags) x
left_later y xs flag flags x at = (suc at.0, omega (arith, at.1), at.2, at.3)

-- what is left is at a place without a mark
pub left_at : {X : Type 0} (xs : List X) (flags : List Bool) (x : X) → IsIn x (unmarked xs flags) → (k : ℕ) × (k < length xs) × (get_or xs k x ≡ x) × (get_or flags k false ≡ false)
left_at [] flags x h = absurd h
left_at (y ∷ xs) [] x (inl is) = (zero, omega arith, sym is, refl)
left_at (y ∷ xs) [] x (inr h) = let at = left_at xs [] x h in (suc at.0, omega (arith, at.1), at.2, refl)
left_at (y ∷ xs) (true ∷ flags) x h = left_later y xs true flags x (left_at xs flags x h)
left_at (y ∷ xs) (false ∷ flags) x (inl is) = (zero, omega arith, sym is, refl)
left_at (y ∷ xs) (false ∷ flags) x (inr h) = left_later y xs false flags x (left_at xs flags x h)

-- and what is at such a place is left
pub at_left : {X : Type 0} (xs : List X) (flags : List Bool) (k : ℕ) (x : X) → k < length xs → get_or xs k x ≡ x → get_or flags k false ≡ false → IsIn x (unmarked xs flags)
at_left [] flags k x inside is free = absurd (omega arith)
at_left (y ∷ xs) [] zero x inside is free = inl (sym is)
at_left (y ∷ xs) [] (suc k) x inside is free = inr (at_left xs [] k x (omega arith) is refl)
at_left (y ∷ xs) (true ∷ flags) zero x inside is free = absurd cc
at_left (y ∷ xs) (true ∷ flags) (suc k) x inside is free = at_left xs flags k x (omega arith) is free
at_left (y ∷ xs) (false ∷ flags) zero x inside is free = inl (sym is)
at_left (y ∷ xs) (false ∷ flags) (suc k) x inside is free = inr (at_left xs flags k x (omega arith) is free)
