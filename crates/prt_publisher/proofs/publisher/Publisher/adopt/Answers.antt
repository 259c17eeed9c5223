use Rattle.std.proofs.Common.{arith}
use Rattle.prt_publisher.proofs.publisher.Publisher.adopt.Goals as goal

pub invariant_of-result : goal.invariant_of-result
invariant_of-result g c =
    let begun = c.in-Ok.ensures.begun in
    (begun.2, omega (arith, begun.3), begun.1, tt, λ known. (c.in-Ok.ensures.opened.adopts known.1 (c.in-Ok.ensures.format.0 known.0)).1)

pub returns-clause-stands : goal.returns-clause-stands
returns-clause-stands g c = λ known. (c.in-Ok.ensures.opened.adopts known.1 (c.in-Ok.ensures.format.0 known.0)).1
