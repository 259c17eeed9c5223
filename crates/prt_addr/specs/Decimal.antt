-- Numbers in decimal digits.
use Rattle.std.specs.Prelude.{ℕ, ◌+◌, ◌-◌, ◌*◌, Bool, ◌&&◌, ◌||◌, ◌==◌, nat_lt, nat_le, if◌then◌else◌, [], ◌∷◌, length, slice_index, Option, Some}
use Rattle.std.specs.Prelude.{None, option_and_then}
use Rattle.prt_addr.specs.Word.{Word, keep}

-- `0` to `9`
abbrev pub digit_of : ℕ → Option ℕ
digit_of b = if nat_le 48 b && nat_le b 57 then Some (b - 48) else None

-- the number n followed by these digits of a base
abbrev pub followed_by : (base : ℕ) → (ℕ → Option ℕ) → ℕ → Word → Option ℕ
followed_by base value_of n [] = Some n
followed_by base value_of n (b ∷ bs) = option_and_then (λ digit. followed_by base value_of (n * base + digit) bs) (value_of b)

-- two bytes or more, of which the first is `0`
abbrev pub has_leading_zero : Word → Bool
has_leading_zero w = nat_lt 1 (length w) && slice_index w 0 == 48

-- the number that one or more digits express; two or more don't begin with 0
abbrev pub decimal_value : Word → Option ℕ
decimal_value w = if length w == 0 || has_leading_zero w then None else followed_by 10 digit_of 0 w

-- the number, if it is at most the limit
abbrev pub at_most : ℕ → Option ℕ → Option ℕ
at_most limit number = keep (λ n. nat_le n limit) number

-- the number, if the word has at most this many digits and the number is at most the limit
abbrev pub decimal_within : ℕ → ℕ → Word → Option ℕ
decimal_within digits limit w = if nat_lt digits (length w) then None else at_most limit (decimal_value w)
