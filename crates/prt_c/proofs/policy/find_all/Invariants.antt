use Rattle.prt_c.specs.Many.{AreAnswers}
use Rattle.prt_c.specs.Policies.{outcome_for}
use Rattle.prt_c.proofs.policy.find_all.Given as goal

abbrev pub invariant-loop-place : goal.invariant-loop-place
invariant-loop-place l = AreAnswers (outcome_for l.policy) l.packets l.initial.outcomes l.outcomes l.place
