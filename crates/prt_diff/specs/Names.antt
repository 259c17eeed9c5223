-- Names of interfaces that `ip -batch` can read: ip(8).
use Rattle.std.specs.Prelude.{ℕ, Bool, true, false, not, ◌&&◌, ◌||◌, ◌==◌, nat_le, [], ◌∷◌, Option, Some, None}
use Rattle.std.specs.List.{list_all}
use Rattle.prt_addr.specs.Word.{Word}

-- `"`, `'` and `\`, which quote what follows, and `#`, which hides the rest of the line
abbrev pub is_quoting : ℕ → Bool
is_quoting b = b == 34 || b == 39 || b == 92 || b == 35

-- from `!` to `~`, and none that quotes or hides
abbrev pub is_plain_byte : ℕ → Bool
is_plain_byte b = nat_le 33 b && nat_le b 126 && not (is_quoting b)

-- `-` begins an option
abbrev pub is_option : Word → Bool
is_option [] = false
is_option (b ∷ bytes) = b == 45

-- a name of such bytes that is no option, or none
abbrev pub is_plain_name : Option Word → Bool
is_plain_name None = true
is_plain_name (Some name) = not (is_option name) && list_all is_plain_byte name
