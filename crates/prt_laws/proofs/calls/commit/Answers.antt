use Rattle.std.proofs.Common.{ap}
use Rattle.sqlite.specs.Held.{Held}
use Rattle.prt_publisher.specs.Standing.{Standing}
use Rattle.prt_laws.proofs.Exits.{committed, failed}
use Rattle.prt_laws.proofs.calls.commit.Goals as goal

pub returns-in-Ok-clause-ok : goal.returns-in-Ok-clause-ok
returns-in-Ok-clause-ok g c = (ap (λ (p : Standing (Held _)). p.phase) c.in-Ok.ensures.ok, λ w s. committed g.S.Store c.args.publisher.now c.commit.new.self w s c.requires c.in-Ok.ensures.ok c.commit.ensures.stands)

pub returns-in-Err-clause-err : goal.returns-in-Err-clause-err
returns-in-Err-clause-err g c = (
  ap (λ (p : Standing (Held _)). p.phase) c.in-Err.ensures.err,
  ap (λ (p : Standing (Held _)). p.commands) c.in-Err.ensures.err,
  c.in-Err.ensures.reason.0,
  c.in-Err.ensures.reason.1,
  λ known left may. failed g.S.Store c.args.publisher.now c.commit.new.self c.requires c.in-Err.ensures.err c.in-Err.reason c.in-Err.ensures.reason.0 c.in-Err.ensures.reason.1 (λ known. c.in-Err.ensures.left known) known left may,
)
