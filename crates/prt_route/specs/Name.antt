-- Names of interfaces.
use Rattle.std.specs.Prelude.{ℕ, Bool, not, ◌&&◌, ◌||◌, ◌==◌, nat_le, [], ◌∷◌, length, codes}
use Rattle.std.specs.List.{list_any}
use Rattle.prt_addr.specs.Word.{Word, is_white, is_one_of}

-- `/`, `:` and white space are in no name
abbrev pub is_barred : ℕ → Bool
is_barred b = b == 47 || b == 58 || is_white b

-- 1 to 15 bytes, none of them barred, and neither `.` nor `..`
abbrev pub is_name : Word → Bool
is_name w = nat_le 1 (length w) && nat_le (length w) 15 && not (list_any is_barred w) && not (is_one_of w (codes "." ∷ codes ".." ∷ []))
