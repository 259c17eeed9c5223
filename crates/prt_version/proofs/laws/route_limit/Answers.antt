use Rattle.std.proofs.Common.{refl}
use Rattle.prt_version.proofs.laws.route_limit.Goals as goal

pub returns-clause-full : goal.returns-clause-full
returns-clause-full c = λ state route absent full. simp (absent, full) refl

pub returns-clause-last : goal.returns-clause-last
returns-clause-last c = λ state route absent last counts. simp (absent, last, counts) refl
