use Rattle.prt_publisher.specs.StoreDesk.{published}
use Rattle.prt_publisher.proofs.Leaves.{accepted_leaves, refused_leaves}
use Rattle.prt_publisher.proofs.StoreTurns.{accepted_explained, all_turns, refused_explained, something}
use Rattle.prt_publisher.proofs.store_desk.StoreDeskDesk.commands.Goals as goal

pub returns-in-Err-clause-turn : goal.returns-in-Err-clause-turn
returns-in-Err-clause-turn g c =
    let old = c.self.inside.publisher in
    rw (← c.self.view_is) (refused_explained g.S.Store old (all_turns (published old) c.args.commands.now.items) c.self.invariant c.requires.some c.in-Err.refusal c.submit_all.new.self (rw c.as_slice-all.ensures.value at c.in-Err.ensures.err))

pub returns-in-Err-clause-left : goal.returns-in-Err-clause-left
returns-in-Err-clause-left g c = λ _. something g.S.Store c.submit_all.new.self c.submit_all.ensures.quiet

pub returns-in-Err-clause-leaves : goal.returns-in-Err-clause-leaves
returns-in-Err-clause-leaves g c =
    rw (← c.self.view_is) (refused_leaves g.S.Store c.self.inside.publisher c.args.commands.now.items c.submit_all.new.self c.submit_all.ensures.stands c.requires.some c.self.invariant c.in-Err.refusal (rw c.as_slice-all.ensures.value at c.in-Err.ensures.err))

pub returns-clause-turn : goal.returns-clause-turn
returns-clause-turn g c =
    let old = c.self.inside.publisher in
    rw (← c.self.view_is) (accepted_explained g.S.Store old (all_turns (published old) c.args.commands.now.items) c.submit_all.new.self c.in-Ok.receipt c.number-last.result (rw c.as_slice-all.ensures.value at c.in-Ok.ensures.took) (rw c.as_slice-all.ensures.value at c.in-Ok.ensures.ok.0) c.number-last.ensures.count (rw c.as_slice-all.ensures.value at c.in-Ok.ensures.ok.1))

pub returns-clause-left : goal.returns-clause-left
returns-clause-left g c = λ _. something g.S.Store c.submit_all.new.self c.submit_all.ensures.quiet

-- a crash leaves what was acknowledged
pub returns-clause-leaves : goal.returns-clause-leaves
returns-clause-leaves g c = rw (← c.self.view_is) (λ _. accepted_leaves g.S.Store c.self.inside.publisher c.args.commands.now.items c.submit_all.new.self c.submit_all.ensures.stands (rw c.as_slice-all.ensures.value at c.in-Ok.ensures.ok.1))

pub returns-clause-ran : goal.returns-clause-ran
returns-clause-ran g c = rw (← c.self.view_is) (rw c.as_slice-all.ensures.value at c.in-Ok.ensures.ran)
