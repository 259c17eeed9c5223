use Rattle.prt_c.specs.Fibs.{AreNumbersIn}
use Rattle.prt_c.proofs.fib.number_all.Given as goal

abbrev pub invariant-loop-place : goal.invariant-loop-place
invariant-loop-place l = AreNumbersIn l.fib l.destinations l.initial.numbers l.numbers l.place
