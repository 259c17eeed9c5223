use Rattle.prt_service.proofs.Groups.{after, begun, part_of_all}
use Rattle.prt_service.proofs.group.Group.add_accepted.Goals as goal

pub loop-one-init : goal.loop-one-init
loop-one-init g c = begun c.args.self.now c.into_iter-one-iterator.result.rest.items c.args.waiting.items c.requires c.into_iter-one-iterator.ensures.into_iter_gives.0

pub loop-one-preserved : goal.loop-one-preserved
loop-one-preserved g c =
    after c.add-added.result c.args.self.now.base c.loop-one.self c.add-added.new.self c.loop-one.one-iterator.rest.items c.args.waiting.items c.in-Some.one c.next.new.self.rest.items
    c.loop-one.invariant c.in-Some.ensures.steps.0 c.add-added.ensures.added c.add-added.ensures.let_go

pub returns-clause-base : goal.returns-clause-base
returns-clause-base g c = c.loop-one.invariant.base

pub returns-clause-part : goal.returns-clause-part
returns-clause-part g c = part_of_all c.args.self.now.base c.loop-one.self c.loop-one.one-iterator.rest.items c.args.waiting.items c.loop-one.invariant
