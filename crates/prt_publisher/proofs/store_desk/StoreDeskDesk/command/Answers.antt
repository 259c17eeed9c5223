use Rattle.std.proofs.Common.{[], ◌∷◌, arith}
use Rattle.prt_publisher.specs.StoreDesk.{published}
use Rattle.prt_publisher.proofs.Leaves.{accepted_leaves, refused_leaves}
use Rattle.prt_publisher.proofs.StoreTurns.{accepted_explained, one_turns, refused_explained, something}
use Rattle.prt_publisher.proofs.store_desk.StoreDeskDesk.command.Goals as goal

pub returns-in-Err-clause-turn : goal.returns-in-Err-clause-turn
returns-in-Err-clause-turn g c =
    let old = c.self.inside.publisher in
    rw (← c.self.view_is) (refused_explained g.S.Store old (one_turns (published old) c.args.command.now) c.self.invariant (omega arith) c.in-Err.reason c.submit.new.self c.in-Err.ensures.err)

pub returns-in-Err-clause-left : goal.returns-in-Err-clause-left
returns-in-Err-clause-left g c = λ _. something g.S.Store c.submit.new.self c.submit.ensures.quiet

pub returns-in-Err-clause-leaves : goal.returns-in-Err-clause-leaves
returns-in-Err-clause-leaves g c =
    rw (← c.self.view_is) (refused_leaves g.S.Store c.self.inside.publisher (c.args.command.now ∷ []) c.submit.new.self c.submit.ensures.stands (omega arith) c.self.invariant c.in-Err.reason c.in-Err.ensures.err)

pub returns-clause-turn : goal.returns-clause-turn
returns-clause-turn g c =
    let old = c.self.inside.publisher in
    rw (← c.self.view_is) (accepted_explained g.S.Store old (one_turns (published old) c.args.command.now) c.submit.new.self c.in-Ok.receipt c.number-number.result c.in-Ok.ensures.took c.in-Ok.ensures.ok.0 c.number-number.ensures.count c.in-Ok.ensures.ok.1)

pub returns-clause-left : goal.returns-clause-left
returns-clause-left g c = λ _. something g.S.Store c.submit.new.self c.submit.ensures.quiet

-- a crash leaves what was acknowledged
pub returns-clause-leaves : goal.returns-clause-leaves
returns-clause-leaves g c = rw (← c.self.view_is) (λ _. accepted_leaves g.S.Store c.self.inside.publisher (c.args.command.now ∷ []) c.submit.new.self c.submit.ensures.stands c.in-Ok.ensures.ok.1)

pub returns-clause-ran : goal.returns-clause-ran
returns-clause-ran g c = rw (← c.self.view_is) c.in-Ok.ensures.ran
