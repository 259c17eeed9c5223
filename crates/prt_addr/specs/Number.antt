-- Numbers in decimal or hexadecimal digits.
use Rattle.std.specs.Prelude.{ℕ, ◌+◌, ◌-◌, Bool, ◌&&◌, ◌||◌, ◌==◌, nat_lt, nat_le, if◌then◌else◌, length, drop, slice_index, Option, Some, None}
use Rattle.prt_addr.specs.Word.{Word}
use Rattle.prt_addr.specs.Decimal.{decimal_value, at_most, followed_by}

-- `0` to `9`, `a` to `f` and `A` to `F`
abbrev pub hex_digit_of : ℕ → Option ℕ
hex_digit_of b = if nat_le 48 b && nat_le b 57 then Some (b - 48) else if nat_le 97 b && nat_le b 102 then Some (b - 97 + 10)
    else if nat_le 65 b && nat_le b 70 then Some (b - 65 + 10) else None

-- the number that one or more hexadecimal digits express, which may begin with 0
abbrev pub hex_value : Word → Option ℕ
hex_value w = if length w == 0 then None else followed_by 16 hex_digit_of 0 w

-- the word begins with `0x` or `0X`
abbrev pub begins_hex : Word → Bool
begins_hex w = nat_lt 1 (length w) && slice_index w 0 == 48 && (slice_index w 1 == 120 || slice_index w 1 == 88)

-- the number up to 2^32 - 1 that a word expresses, in hexadecimal digits after `0x` or `0X` and otherwise in decimal ones
abbrev pub number : Word → Option ℕ
number w = at_most 4294967295 (if begins_hex w then hex_value (drop 2 w) else decimal_value w)
