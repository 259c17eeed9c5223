-- Digits that are written from the last one on.
use Rattle.std.proofs.Common.{◌≡◌, ℕ, zero, suc, ◌+◌, ◌-◌, ◌/◌, ◌%◌, ◌^◌, ◌<◌, ◌≤◌, false, List, [], ◌∷◌, refl, sym, ap, ◌∙◌, arith, length, drop, drop_of_length-le, slice_set}
use Rattle.std.proofs.Math.Nat.{pow-succ'}
use Rattle.std.proofs.lemmas.List.{drop-set, length-set}
use Rattle.std.proofs.lemmas.Bool.Decides.{nat_tests}
use Rattle.std.specs.Fmt.{digit_glyph, digits, digits_onto}

-- the digits of rest are still to be written before those that begin at start
pub record IsWriting (number start rest : ℕ) (buffer : List ℕ) : Type 0 where
  pub whole : length buffer ≡ 8
  pub within : start ≤ 8
  pub room : 0 < start
  pub below : rest < 16 ^ start
  pub value : digits_onto (56 + start) 16 false rest (drop start buffer) ≡ digits 16 false number

pub digits_from_none : (n : ℕ) → digits_onto 64 16 false n [] ≡ digits 16 false n
unfolding digits
digits_from_none n = refl

-- the digit that is left
pub last_digit : (i n : ℕ) (others : List ℕ) → 0 < i → n / 16 ≡ 0 → digits_onto i 16 false n others ≡ digit_glyph false (n % 16) ∷ others
last_digit zero n others positive last = absurd (omega arith)
last_digit (suc i) n others positive last = grind (arith, nat_tests)

-- a digit before which others are left
pub next_digit : (i n : ℕ) (others : List ℕ) → 0 < i → (n / 16 ≡ 0 → ⊥) → digits_onto i 16 false n others ≡ digits_onto (i - 1) 16 false (n / 16) (digit_glyph false (n % 16) ∷ others)
next_digit zero n others positive more = absurd (omega arith)
next_digit (suc i) n others positive more = step ∙ ap (λ j. digits_onto j 16 false (n / 16) (digit_glyph false (n % 16) ∷ others)) {x = i} {y = suc i - 1} (omega arith)
  where
    step : digits_onto (suc i) 16 false n others ≡ digits_onto i 16 false (n / 16) (digit_glyph false (n % 16) ∷ others)
    step = grind (arith, nat_tests)

pub below_next : (k n : ℕ) → 0 < k → n < 16 ^ k → n / 16 < 16 ^ (k - 1)
below_next zero n positive below = absurd (omega arith)
below_next (suc k) n positive below =
    let power = pow-succ' 16 k in
    let same : 16 ^ (suc k - 1) ≡ 16 ^ k = ap (λ j. 16 ^ j) {x = suc k - 1} {y = k} (omega arith) in
    omega arith

-- a number that isn't 0 has a digit
pub room_left : (k n : ℕ) → n < 16 ^ k → (n ≡ 0 → ⊥) → 0 < k
room_left zero n below some = absurd (some (omega arith))
room_left (suc k) n below some = omega arith

-- a digit before those that are written
drop-digit : (start digit : ℕ) (buffer : List ℕ) → 0 < start → start ≤ length buffer → drop (start - 1) (slice_set buffer (start - 1) digit) ≡ digit ∷ drop start buffer
drop-digit start digit buffer room within =
    drop-set buffer (start - 1) digit (omega arith)
    ∙ ap (λ j. digit ∷ drop j buffer) {x = start - 1 + 1} {y = start} (omega arith)

pub first : (number : ℕ) (buffer : List ℕ) → number < 2 ^ 32 → length buffer ≡ 8 → IsWriting number 8 number buffer
first number buffer fits whole = record {
  whole = whole;
  within = omega arith;
  room = omega arith;
  below = fits;
  value = ap (digits_onto 64 16 false number) (drop_of_length-le buffer {i = 8} (omega arith)) ∙ digits_from_none number;
}

pub last : (number start rest digit : ℕ) (buffer : List ℕ) → IsWriting number start rest buffer → digit ≡ digit_glyph false (rest % 16) → rest / 16 ≡ 0 → drop (start - 1) (slice_set buffer (start - 1) digit) ≡ digits 16 false number
last number start rest digit buffer writing is none =
    let room : 0 < start = writing.room in
    let within : start ≤ length buffer = omega arith in
    drop-digit start digit buffer room within
    ∙ ap (λ d. d ∷ drop start buffer) is
    ∙ sym (last_digit (56 + start) rest (drop start buffer) (omega arith) none)
    ∙ writing.value

pub next : (number start rest digit : ℕ) (buffer : List ℕ) → IsWriting number start rest buffer → digit ≡ digit_glyph false (rest % 16) → (rest / 16 ≡ 0 → ⊥) → IsWriting number (start - 1) (rest / 16) (slice_set buffer (start - 1) digit)
next number start rest digit buffer writing is some =
    let room : 0 < start = writing.room in
    let within : start ≤ length buffer = omega (arith, writing.whole, writing.within) in
    let below : rest / 16 < 16 ^ (start - 1) = below_next start rest room writing.below in
    record {
      whole = length-set buffer (start - 1) digit ∙ writing.whole;
      within = omega arith;
      room = room_left (start - 1) (rest / 16) below some;
      below = below;
      value =
          ap (digits_onto (56 + (start - 1)) 16 false (rest / 16)) (drop-digit start digit buffer room within ∙ ap (λ d. d ∷ drop start buffer) is)
          ∙ ap (λ j. digits_onto j 16 false (rest / 16) (digit_glyph false (rest % 16) ∷ drop start buffer)) {x = 56 + (start - 1)} {y = 56 + start - 1} (omega arith)
          ∙ sym (next_digit (56 + start) rest (drop start buffer) (omega arith) some)
          ∙ writing.value;
    }
