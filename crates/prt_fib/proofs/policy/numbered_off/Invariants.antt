use Rattle.std.proofs.Common.{take}
use Rattle.prt_fib.specs.Policy.{AreNumberedOff}
use Rattle.prt_fib.proofs.policy.numbered_off.Given as goal

abbrev pub invariant-loop-number : goal.invariant-loop-number
invariant-loop-number l = AreNumberedOff (take l.number l.packets) l.classes.items
