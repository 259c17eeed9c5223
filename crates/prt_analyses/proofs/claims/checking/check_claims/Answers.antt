use Rattle.prt_analyses.proofs.Checks.{begins, ends, goes_on, stops}
use Rattle.prt_analyses.proofs.claims.checking.check_claims.Goals as goal

pub loop-line-preserved : goal.loop-line-preserved
loop-line-preserved c = goes_on _ _ _ _ _ _ _ _ c.loop-line.invariant c.in-Some.ensures.0 c.in-Some.ensures.1 c.in-Ok.ensures.ok

pub returns-clause-value : goal.returns-clause-value
returns-clause-value c = ends _ _ _ _ _ c.loop-line.invariant c.in_default.ensures

pub returns-in-Err-clause-reason : goal.returns-in-Err-clause-reason
returns-in-Err-clause-reason c = stops _ _ _ _ _ _ c.in-Some.after.now _ c.loop-line.invariant c.in-Some.ensures.0 c.in-Err.ensures.reason
