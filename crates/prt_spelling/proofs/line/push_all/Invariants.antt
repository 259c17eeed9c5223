use Rattle.std.proofs.Common.{◌≡◌, ◌++◌, map, take}
use Rattle.prt_listing.specs.Steps.{part_of}
use Rattle.prt_spelling.specs.Steps.{after_spaces}
use Rattle.prt_spelling.proofs.line.push_all.Given as goal

abbrev pub invariant-loop-part : goal.invariant-loop-part
invariant-loop-part l = l.out.items ≡ l.fn.out.items ++ after_spaces (map part_of (take l.part-index l.parts))
