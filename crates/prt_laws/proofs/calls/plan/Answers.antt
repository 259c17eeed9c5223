use Rattle.std.proofs.Common.{ap}
use Rattle.sqlite.specs.Held.{Held}
use Rattle.prt_publisher.specs.Standing.{Standing}
use Rattle.prt_laws.proofs.Submitted.{plans, plans_not}
use Rattle.prt_laws.proofs.calls.plan.Goals as goal

pub returns-in-Ok-clause-ok : goal.returns-in-Ok-clause-ok
returns-in-Ok-clause-ok g c = plans g.S.Store c.args.publisher.now c.plan.new.self c.requires c.in-Ok.ensures.ok c.plan.ensures.allowed

pub returns-in-Err-clause-err : goal.returns-in-Err-clause-err
returns-in-Err-clause-err g c = (c.in-Err.ensures.reason, ap (λ (p : Standing (Held _)). p.phase) c.in-Err.ensures.err, λ w s. plans_not g.S.Store c.args.publisher.now c.plan.new.self c.requires c.in-Err.ensures.err w s)
