use Rattle.std.proofs.Common.{◌≡◌, map, string_bytes, take}
use Rattle.prt_program.specs.Messages.{shown}
use Rattle.prt_program.proofs.messages.shown_text.Given as goal

abbrev pub invariant-loop-byte : goal.invariant-loop-byte
invariant-loop-byte l = string_bytes l.text ≡ map shown (take l.byte-index l.line)
