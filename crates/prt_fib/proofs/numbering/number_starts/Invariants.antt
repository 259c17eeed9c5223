use Rattle.std.proofs.Common.{take}
use Rattle.prt_fib.specs.Hashes.{IsIndex, hash_of}
use Rattle.prt_fib.specs.Numbers.{AreNumbered}
use Rattle.prt_fib.proofs.numbering.number_starts.Given as goal

abbrev pub invariant-loop-start : goal.invariant-loop-start
invariant-loop-start l = record {
  numbered : AreNumbered l.version l.packet (take l.start-index l.starts) l.numbers.items l.outcomes.items;
  index : IsIndex hash_of l.outcomes.items l.heads.items l.next.items;
}
