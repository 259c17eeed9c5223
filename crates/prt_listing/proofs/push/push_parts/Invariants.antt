use Rattle.std.proofs.Common.{map, take}
use Rattle.prt_listing.specs.Steps.{part_of}
use Rattle.prt_listing.proofs.Spaced.{IsPushed}
use Rattle.prt_listing.proofs.push.push_parts.Given as goal

abbrev pub invariant-loop-part : goal.invariant-loop-part
invariant-loop-part l = IsPushed l.fn.out.items l.out.items l.gap (map part_of (take l.part-index l.parts))
