-- Firewall marks.
use Rattle.std.specs.Prelude.{ℕ, ◌+◌, ◌==◌, Bool, take, drop, position, Option, Some, None, Result, Ok}
use Rattle.std.specs.Option.{ok_or}
use Rattle.prt_addr.specs.Number.{number}
use Rattle.prt_addr.specs.Word.{Word}
use Rattle.prt_refusals.specs.declared.refusal.Refusal.{Refusal}
use Rattle.prt_refusals.specs.declared.refusal.Refusal.TheVariants.{BadNumber}
use Rattle.prt_rule.specs.declared.rule.Mark.{Mark}
use Rattle.prt_command.specs.Then.{◌>>=◌}

abbrev pub is_slash : ℕ → Bool
is_slash b = b == 47

-- the number that a word expresses, or the refusal
abbrev pub part : Word → Result ℕ Refusal
part w = ok_or (number w) BadNumber

-- by the place of the first `/`, after which the mask comes; without one it has all bits
abbrev pub mark_at : Option ℕ → Word → Result Mark Refusal
mark_at None w = part w >>= λ mark. Ok (record { mark = mark; mask = 0xffffffff })
mark_at (Some place) w = part (take place w) >>= λ mark. part (drop (place + 1) w) >>= λ mask. Ok (record { mark = mark; mask = mask })

-- a number, or a number, `/` and a mask
abbrev pub mark : Word → Result Mark Refusal
mark w = mark_at (position is_slash w) w
