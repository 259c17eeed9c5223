use Rattle.std.proofs.Common.{length, arith}
use Rattle.prt_partition.proofs.Gaps.{no_such}
use Rattle.prt_partition.proofs.interfaces.first_gap.Goals as goal

pub returns-then-number-i-clause-gap : goal.returns-then-number-i-clause-gap
returns-then-number-i-clause-gap c = no_such c.args.numbers.now c.loop-i.i c.requires.rise c.loop-i.invariant (λ lt. c.if-number-i.true)

pub returns-clause-gap : goal.returns-clause-gap
returns-clause-gap c = no_such c.args.numbers.now (length c.args.numbers.now) c.requires.rise (λ k lt. c.loop-i.invariant k (omega arith)) (λ lt. absurd (omega arith))
