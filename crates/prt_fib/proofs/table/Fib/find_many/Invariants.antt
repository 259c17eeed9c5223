use Rattle.std.proofs.Common.{◌≡◌, length, take}
use Rattle.prt_fib.specs.Fib.{AreNumbersOf}
use Rattle.prt_fib.proofs.table.Fib.find_many.Given as goal

abbrev pub invariant-loop-i : goal.invariant-loop-i
invariant-loop-i l = record {
  same : length l.numbers ≡ length l.destinations;
  done : AreNumbersOf l.self (take l.i l.destinations) (take l.i l.numbers);
}
