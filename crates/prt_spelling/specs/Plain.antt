-- Names that a line can express.
use Rattle.std.specs.Prelude.{ℕ, Bool, true, not, ◌&&◌, ◌==◌, nat_le, Option, Some, None}
use Rattle.std.specs.List.{list_all}
use Rattle.prt_addr.specs.Word.{Word}
use Rattle.prt_route.specs.Name.{is_name}

-- from `!` to `~`, and no `#`
abbrev pub is_plain_byte : ℕ → Bool
is_plain_byte b = nat_le 33 b && nat_le b 126 && not (b == 35)

-- a name of such bytes, or none
abbrev pub is_plain_name : Option Word → Bool
is_plain_name None = true
is_plain_name (Some name) = is_name name && list_all is_plain_byte name
