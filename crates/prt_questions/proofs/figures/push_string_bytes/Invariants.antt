use Rattle.std.proofs.Common.{◌≡◌, ◌++◌, flat_map, take}
use Rattle.prt_questions.specs.StatusText.{string_byte}
use Rattle.prt_questions.proofs.figures.push_string_bytes.Given as goal

abbrev pub invariant-loop-byte : goal.invariant-loop-byte
invariant-loop-byte l = l.out.items ≡ l.fn.out.items ++ flat_map string_byte (take l.byte-index l.text)
