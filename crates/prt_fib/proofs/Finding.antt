-- Places among starts that rise.
use Rattle.std.proofs.Common.{◌≡◌, ℕ, zero, suc, ◌+◌, ◌-◌, ◌<◌, ◌≤◌, List, [], ◌∷◌, length, inl, inr, ap, subst, sym, arith, ⊎_elim, slice_index}
use Rattle.std.specs.List.{Contains}
use Rattle.std.specs.List.Sorted.{IsStrictlyIncreasing}
use Rattle.std.proofs.lemmas.Bool.{cases_lt}
use Rattle.std.proofs.lemmas.List.Kept.{AllPairs-from_increasing}
use Rattle.prt_partition.proofs.Starts.{IsIn, contains_in}
use Rattle.prt_fib.specs.Places.{AreStartsFrom, IsCount, IsPlace, IsStart}

pub rising_at : (starts : List ℕ) (i j : ℕ) → IsStrictlyIncreasing starts → i ≤ j → j < length starts → slice_index starts i ≤ slice_index starts j
rising_at starts i j rise le lt =
    ⊎_elim
    (λ (before : i < j). let h : slice_index starts i < slice_index starts j = AllPairs-from_increasing starts rise i j 0 before lt in omega arith)
    (λ (after : j ≤ i). let same : i ≡ j = omega arith in let e : slice_index starts i ≡ slice_index starts j = ap (slice_index starts) same in omega arith)
    (cases_lt i j)

-- where the bounds have met
pub found : (starts : List ℕ) (n low high : ℕ) → IsStrictlyIncreasing starts → low < length starts → high ≤ low → slice_index starts low ≤ n →
    (high + 1 < length starts → n < slice_index starts (high + 1)) → IsPlace starts n low
found starts n low high rise lt met from to = record {
  within = lt;
  from = from;
  to = λ more.
      ⊎_elim
      (λ (crossed : high < low).
      let below : n < slice_index starts (high + 1) = to (omega arith) in
      let up : slice_index starts (high + 1) ≤ slice_index starts low = rising_at starts (high + 1) low rise (omega arith) lt in
      absurd (omega arith))
      (λ (le : low ≤ high). let same : high ≡ low = omega arith in subst (λ k. n < slice_index starts (k + 1)) same (to (omega arith)))
      (cases_lt high low);
}

-- the start at a place is at least so far from the first
at_least : (base : ℕ) (starts : List ℕ) (k : ℕ) → IsStrictlyIncreasing starts → slice_index starts 0 ≡ base → k < length starts → base + k ≤ slice_index starts k
at_least base starts zero rise begin lt = omega arith
at_least base starts (suc k) rise begin lt =
    let before : base + k ≤ slice_index starts k = at_least base starts k rise begin (omega arith) in
    let up : slice_index starts k < slice_index starts (suc k) = AllPairs-from_increasing starts rise k (suc k) 0 (omega arith) lt in
    omega arith

-- a piece has no more starts than addresses
pub few : (base : ℕ) (starts : List ℕ) → AreStartsFrom base starts → length starts ≤ 16777216
few base starts are =
    let some : 0 < length starts = are.some in
    let last : base + (length starts - 1) ≤ slice_index starts (length starts - 1) = at_least base starts (length starts - 1) are.rise are.begin (omega arith) in
    let fits : slice_index starts (length starts - 1) < base + 16777216 = are.below (length starts - 1) (omega arith) in
    omega arith

pub from_base : (base : ℕ) (starts : List ℕ) (k : ℕ) → AreStartsFrom base starts → k < length starts → base ≤ slice_index starts k
from_base base starts k are lt = let up : slice_index starts 0 ≤ slice_index starts k = rising_at starts 0 k are.rise (omega arith) lt in let begin = are.begin in omega arith

-- each start is at its own place
pub own_place : (starts : List ℕ) (k : ℕ) → IsStrictlyIncreasing starts → k < length starts → IsPlace starts (slice_index starts k) k
own_place starts k rise lt = record { within = lt; from = omega arith; to = λ more. rise k more }

-- ---- starts as members

start_in : (n : ℕ) (starts : List ℕ) → IsIn n starts → IsStart starts n
start_in n [] h = absurd h
start_in n (s ∷ starts) (inl is) = (0, omega arith, sym is)
start_in n (s ∷ starts) (inr h) = let at = start_in n starts h in let lt = at.1 in (suc at.0, omega arith, at.2)

pub start_of : (n : ℕ) (starts : List ℕ) → Contains starts n → IsStart starts n
start_of n starts h = start_in n starts (contains_in n starts h)

-- the first start that isn't below a start is that start
pub counted : (starts : List ℕ) (n count : ℕ) → IsStrictlyIncreasing starts → IsCount starts n count → IsStart starts n → (count < length starts) × (slice_index starts count ≡ n)
counted starts n count rise is at =
    let here : slice_index starts at.0 ≡ n = at.2 in
    let lt : at.0 < length starts = at.1 in
    ⊎_elim
    (λ (early : at.0 < count). let below : slice_index starts at.0 < n = is.below at.0 early in absurd (omega arith))
    (λ (le : count ≤ at.0).
    let within : count < length starts = omega arith in
    let above : n ≤ slice_index starts count = is.above count (omega arith) within in
    let up : slice_index starts count ≤ slice_index starts at.0 = rising_at starts count at.0 rise le lt in
    (within, omega arith))
    (cases_lt at.0 count)
