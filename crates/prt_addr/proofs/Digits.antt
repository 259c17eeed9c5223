-- Numbers in digits that go past their limit.
use Rattle.std.proofs.Common.{◌≡◌, ℕ, ◌+◌, ◌-◌, ◌*◌, ◌<◌, ◌≤◌, true, false, [], ◌∷◌, Option, Some, None, refl, ap, ◌∙◌, arith, length, drop, get_or, drop-cons, suc, option_and_then, nat_le}
use Rattle.std.specs.Char.{is_ascii_digit}
use Rattle.std.specs.Fmt.{decimal}
use Rattle.std.proofs.Math.Nat.{le-mul_of_pos_right}
use Rattle.std.proofs.lemmas.Fmt.{length-decimal-le}
use Rattle.std.proofs.lemmas.Option.{none-some, same_Some}
use Rattle.prt_addr.specs.Word.{Word}
use Rattle.prt_addr.specs.Decimal.{digit_of, followed_by, at_most}

-- the same after one digit
grows_by : (base : ℕ) (value_of : ℕ → Option ℕ) (w : Word) (n m : ℕ) → 0 < base → (digit : Option ℕ) → ((n m : ℕ) → followed_by base value_of n w ≡ Some m → n ≤ m) → option_and_then (λ d. followed_by base value_of (n * base + d) w) digit ≡ Some m → n ≤ m
grows_by base value_of w n m some None rest e = absurd (none-some m e)
grows_by base value_of w n m some (Some d) rest e = omega (arith, rest (n * base + d) m e, le-mul_of_pos_right n some)

-- more digits make no number smaller
grows : (base : ℕ) (value_of : ℕ → Option ℕ) → 0 < base → (w : Word) (n m : ℕ) → followed_by base value_of n w ≡ Some m → n ≤ m
grows base value_of some [] n m e = omega (arith, same_Some n m e)
grows base value_of some (b ∷ w) n m e = grows_by base value_of w n m some (value_of b) (grows base value_of some w) e

-- a number of at least n, if n is over the limit
over_limit_by : (limit n : ℕ) (number : Option ℕ) → limit < n → ((m : ℕ) → number ≡ Some m → n ≤ m) → at_most limit number ≡ None
over_limit_by limit n None over least = refl
over_limit_by limit n (Some m) over least = let past : nat_le m limit ≡ false = grind (arith, least m refl) in simp past refl

-- the digits from i on are the digit at i and those after it
first_digit : (base : ℕ) (value_of : ℕ → Option ℕ) (n i d : ℕ) (w : Word) → i < length w → value_of (get_or w i 0) ≡ Some d → followed_by base value_of n (drop i w) ≡ followed_by base value_of (n * base + d) (drop (suc i) w)
first_digit base value_of n i d w inside digit =
    ap (followed_by base value_of n) (drop-cons w i 0 inside) ∙ ap (option_and_then (λ d. followed_by base value_of (n * base + d) (drop (suc i) w))) digit

-- the digit at i takes the number over the limit
pub digit_over_limit : (base : ℕ) (value_of : ℕ → Option ℕ) (limit n i d : ℕ) (w : Word) → 0 < base → i < length w → value_of (get_or w i 0) ≡ Some d → limit < n * base + d → at_most limit (followed_by base value_of n (drop i w)) ≡ None
digit_over_limit base value_of limit n i d w some inside digit over =
    ap (at_most limit) (first_digit base value_of n i d w inside digit)
    ∙ over_limit_by limit (n * base + d) (followed_by base value_of (n * base + d) (drop (suc i) w)) over (grows base value_of some (drop (suc i) w) (n * base + d))

-- the value of a decimal digit
pub value_of_digit : (b : ℕ) → is_ascii_digit b ≡ true → digit_of b ≡ Some (b - 48)
value_of_digit b digit = simp digit refl

-- a prefix's length has one or two digits
pub two_digits : (len : ℕ) → len ≤ 32 → length (decimal len) ≤ 2
two_digits len short = length-decimal-le 2 len (omega arith) (omega arith) (omega arith)
