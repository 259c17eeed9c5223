use Rattle.std.proofs.Common.{◌≡◌, ◌++◌, map, take}
use Rattle.prt_questions.specs.StatusText.{line_byte}
use Rattle.prt_questions.proofs.figures.push_name.Given as goal

abbrev pub invariant-loop-byte : goal.invariant-loop-byte
invariant-loop-byte l = l.out.items ≡ l.fn.out.items ++ map line_byte (take l.byte-index l.name)
