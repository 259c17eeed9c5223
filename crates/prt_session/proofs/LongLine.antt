-- The one fact about the reading of a line that the session rests on.
use Rattle.std.proofs.Common.{◌≡◌, ℕ, ◌<◌, nat_lt, true, List, length, Err, arith}
use Rattle.std.proofs.lemmas.Bool.Decides.{nat_tests}
use Rattle.prt_refusals.specs.declared.refusal.Refusal.TheVariants.{LineTooLong}
use Rattle.prt_command.specs.Reading.{reading}

is_less : (m n : ℕ) → m < n → nat_lt m n ≡ true
is_less m n h = grind (arith, nat_tests)

-- a line over 1,024 bytes is too long, whatever it says
pub reading_long : (line : List ℕ) → 1024 < length line → reading line ≡ Err LineTooLong
reading_long line h = rw (is_less 1024 (length line) h)
