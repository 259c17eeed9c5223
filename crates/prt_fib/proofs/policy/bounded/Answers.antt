use Rattle.std.proofs.Common.{arith}
use Rattle.prt_fib.proofs.policy.bounded.Goals as goal

pub returns-clause-fits : goal.returns-clause-fits
returns-clause-fits c = let w = c.well_formed in record { dst = omega arith; src = omega arith; mark = omega arith }
