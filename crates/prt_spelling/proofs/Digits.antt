-- Digits that were written are read back.
use Rattle.std.proofs.Common.{◌≡◌, ℕ, zero, suc, ◌+◌, ◌*◌, ◌/◌, ◌%◌, ◌^◌, ◌<◌, ◌≤◌, Bool, true, false, List, [], ◌∷◌, ◌++◌, Option, Some, None, refl, ap, ◌∙◌, arith, length, get_or, option_and_then, nat_lt}
use Rattle.std.specs.Prelude.{codes, decimal, slice_index, ◌==◌, ◌&&◌, ◌||◌, if◌then◌else◌}
use Rattle.std.specs.Fmt.{digit_glyph, digits, digits_onto}
use Rattle.std.specs.Char.{digit_value}
use Rattle.std.specs.List.{AllByRecursion as Each}
use Rattle.std.specs.Str.Parse.{AllDigits, digits_value_after}
use Rattle.std.proofs.lemmas.Bool.Decides.{nat_tests}
use Rattle.std.proofs.lemmas.Fmt.{decimal_is_IsNumeral, digits_is_IsNumeral, decimal_digit, first_decimal, length-decimal-le}
use Rattle.prt_addr.specs.Decimal.{digit_of, followed_by, decimal_value, decimal_within, at_most, has_leading_zero}
use Rattle.prt_addr.specs.Number.{number, begins_hex, hex_digit_of, hex_value}
use Rattle.prt_addr.specs.Word.{Word}

-- ---- digits

-- `0` to `9`
pub record IsDigit (c : ℕ) : Type 0 where
  pub low : 48 ≤ c
  pub high : c ≤ 57

-- `0` to `9`, or a letter
pub record IsHexDigit (c : ℕ) : Type 0 where
  pub low : 48 ≤ c
  pub high : c ≤ 122

is_digit : (c : ℕ) → digit_value c < 10 → IsDigit c
is_digit c below = record { low = grind (arith, nat_tests); high = grind (arith, nat_tests) }

is_hex_digit : (c : ℕ) → digit_value c < 16 → IsHexDigit c
is_hex_digit c below = record { low = grind (arith, nat_tests); high = grind (arith, nat_tests) }

pub are_digits : (ds : List ℕ) → AllDigits 10 ds → Each IsDigit ds
are_digits [] all = tt
are_digits (c ∷ cs) all = (is_digit c all.0, are_digits cs all.1)

pub are_hex_digits : (ds : List ℕ) → AllDigits 16 ds → Each IsHexDigit ds
are_hex_digits [] all = tt
are_hex_digits (c ∷ cs) all = (is_hex_digit c all.0, are_hex_digits cs all.1)

digit_is : (c : ℕ) → digit_value c < 10 → digit_of c ≡ Some (digit_value c)
digit_is c below = grind (arith, nat_tests)

hex_digit_is : (c : ℕ) → digit_value c < 16 → hex_digit_of c ≡ Some (digit_value c)
hex_digit_is c below = grind (arith, nat_tests)

reads_decimal : (n : ℕ) (ds : List ℕ) → AllDigits 10 ds → followed_by 10 digit_of n ds ≡ Some (digits_value_after 10 n ds)
reads_decimal n [] all = refl
reads_decimal n (c ∷ cs) all = ap (option_and_then (λ d. followed_by 10 digit_of (n * 10 + d) cs)) (digit_is c all.0) ∙ reads_decimal (n * 10 + digit_value c) cs all.1

reads_hex : (n : ℕ) (ds : List ℕ) → AllDigits 16 ds → followed_by 16 hex_digit_of n ds ≡ Some (digits_value_after 16 n ds)
reads_hex n [] all = refl
reads_hex n (c ∷ cs) all = ap (option_and_then (λ d. followed_by 16 hex_digit_of (n * 16 + d) cs)) (hex_digit_is c all.0) ∙ reads_hex (n * 16 + digit_value c) cs all.1

-- ---- decimal numbers

-- What is known of the digits of a number.
pub record IsDecimal (n : ℕ) (ds : List ℕ) : Type 0 where
  pub some : 0 < length ds
  pub digits : Each IsDigit ds
  pub value : followed_by 10 digit_of 0 ds ≡ Some n
  pub first : (1 < length ds) → 48 < get_or ds 0 0

first_by : (n : ℕ) → n < 2 ^ 64 → (z : Bool) → (n == 0) ≡ z → 1 < length (decimal n) → 48 < get_or (decimal n) 0 0
first_by n fits true is long = let e : n ≡ 0 = grind (arith, nat_tests) in absurd (let l : length (decimal n) ≡ 1 = ap (λ n. length (decimal n)) e ∙ ap length (decimal_digit 0 (omega arith)) in omega arith)
first_by n fits false is long = first_decimal n (grind (arith, nat_tests)) fits

pub decimal_is : (n : ℕ) → n < 2 ^ 64 → IsDecimal n (decimal n)
decimal_is n fits =
    let numeral = decimal_is_IsNumeral n fits in
    record {
      some = numeral.0.0;
      digits = are_digits (decimal n) numeral.0.1;
      value = reads_decimal 0 (decimal n) numeral.0.1 ∙ ap Some numeral.1;
      first = first_by n fits (n == 0) refl;
    }

no_zero_by : (l : ℕ) (c : ℕ) → (1 < l → 48 < c) → (nat_lt 1 l && c == 48) ≡ false
no_zero_by l c first = grind (arith, nat_tests)

value_by : (l : ℕ) (z : Bool) (r : Option ℕ) → 0 < l → z ≡ false → (if l == 0 || z then None else r) ≡ r
value_by l z r some none = grind (arith, nat_tests)

pub value_back : (n : ℕ) (ds : List ℕ) → IsDecimal n ds → decimal_value ds ≡ Some n
value_back n ds is = value_by (length ds) (has_leading_zero ds) (followed_by 10 digit_of 0 ds) is.some (no_zero_by (length ds) (slice_index ds 0) is.first) ∙ is.value

kept : (limit n : ℕ) → n ≤ limit → at_most limit (Some n) ≡ Some n
kept limit n below = grind (arith, nat_tests)

no_hex_by : (l : ℕ) (c : ℕ) (x : Bool) → (1 < l → 48 < c) → (nat_lt 1 l && c == 48 && x) ≡ false
no_hex_by l c x first = grind (arith, nat_tests)

decimal_number : (w : Word) (n : ℕ) → begins_hex w ≡ false → decimal_value w ≡ Some n → n < 2 ^ 32 → number w ≡ Some n
decimal_number w n plain is fits = simp (plain, is) (kept 4294967295 n (omega arith))

pub number_back : (n : ℕ) → n < 2 ^ 32 → number (decimal n) ≡ Some n
number_back n fits =
    let is = decimal_is n (omega arith) in
    decimal_number (decimal n) n (no_hex_by (length (decimal n)) (slice_index (decimal n) 0) _ is.first) (value_back n (decimal n) is) fits

-- ---- numbers of at most so many digits

within_by : (k limit n : ℕ) (w : Word) → length w ≤ k → decimal_value w ≡ Some n → n ≤ limit → decimal_within k limit w ≡ Some n
within_by k limit n w short is below = let test : nat_lt k (length w) ≡ false = grind (arith, nat_tests) in simp (test, is) (kept limit n below)

pub within_back : (k limit n : ℕ) → 0 < k → n < 10 ^ k → n ≤ limit → n < 2 ^ 64 → decimal_within k limit (decimal n) ≡ Some n
within_back k limit n some below fits wide = within_by k limit n (decimal n) (length-decimal-le k n some below wide) (value_back n (decimal n) (decimal_is n wide)) fits

-- ---- hexadecimal numbers

-- What is known of the digits of a number in hexadecimal ones.
pub record IsHex (n : ℕ) (ds : List ℕ) : Type 0 where
  pub some : 0 < length ds
  pub digits : Each IsHexDigit ds
  pub value : followed_by 16 hex_digit_of 0 ds ≡ Some n

pub hex_is : (n : ℕ) → n < 2 ^ 32 → IsHex n (digits 16 false n)
hex_is n fits =
    let numeral = digits_is_IsNumeral 16 false (omega arith) (omega arith) n (omega arith) in
    record {
      some = numeral.0.0;
      digits = are_hex_digits (digits 16 false n) numeral.0.1;
      value = reads_hex 0 (digits 16 false n) numeral.0.1 ∙ ap Some numeral.1;
    }

begins : (ds : List ℕ) → begins_hex (48 ∷ 120 ∷ ds) ≡ true
begins ds = grind (arith, nat_tests)

hex_value_by : (ds : List ℕ) (n : ℕ) → IsHex n ds → hex_value ds ≡ Some n
hex_value_by ds n is = let some = is.some in let test : (length ds == 0) ≡ false = grind (arith, nat_tests) in simp test is.value

pub hex_back : (n : ℕ) → n < 2 ^ 32 → number (codes "0x" ++ digits 16 false n) ≡ Some n
hex_back n fits = simp (begins, hex_value_by (digits 16 false n) n (hex_is n fits)) (kept 4294967295 n (omega arith))

either : (b : Bool) (xs ys : List ℕ) (most : ℕ) → length xs ≤ most → length ys ≤ most → length (if b then xs else ys) ≤ most
either true xs ys most first second = first
either false xs ys most first second = second

length_onto : (k base n : ℕ) (acc : List ℕ) → length (digits_onto k base false n acc) ≤ k + length acc
length_onto zero base n acc = omega arith
length_onto (suc k) base n acc =
    let rest = length_onto k base (n / base) (digit_glyph false (n % base) ∷ acc) in
    either (n / base == 0) (digit_glyph false (n % base) ∷ acc) (digits_onto k base false (n / base) (digit_glyph false (n % base) ∷ acc)) (suc k + length acc) (omega arith) (omega (arith, rest))

pub length_hex : (n : ℕ) → length (digits 16 false n) ≤ 64
unfolding digits
length_hex n = length_onto 64 16 n []
