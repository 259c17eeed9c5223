use Rattle.std.proofs.Common.{◌≡◌, ◌&&◌, ◌==◌, not, take}
use Rattle.std.specs.List.{list_all}
use Rattle.prt_command.specs.Reading.{is_text_byte}
use Rattle.prt_command.proofs.words.is_plain.Given as goal

abbrev pub invariant-loop-byte : goal.invariant-loop-byte
invariant-loop-byte l = l.is_plain ≡ list_all (λ b. is_text_byte b && not (b == 35)) (take l.byte-index l.line)
