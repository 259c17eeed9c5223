use Rattle.prt_laws.proofs.Submitted.{admits_checked, declines_full_checked}
use Rattle.prt_laws.proofs.calls.admit.Goals as goal

pub returns-in-Ok-clause-ok : goal.returns-in-Ok-clause-ok
returns-in-Ok-clause-ok g c =
    admits_checked g.S.Store c.args.publisher.now c.admit.new.self c.args.registry.now c.admit.new.registry c.requires.ready c.args.checked c.requires.checked c.admit.ensures.registry c.in-Ok.ensures.ok c.in-Ok.ensures.room

pub returns-in-Err-clause-err : goal.returns-in-Err-clause-err
returns-in-Err-clause-err g c event some asks =
    declines_full_checked g.S.Store c.args.publisher.now c.admit.new.self c.args.registry.now c.admit.new.registry c.requires.ready c.args.checked c.requires.checked c.admit.ensures.registry c.in-Err.reason c.in-Err.ensures.err.0 c.in-Err.ensures.err.1 c.in-Err.ensures.err.2 event some asks
