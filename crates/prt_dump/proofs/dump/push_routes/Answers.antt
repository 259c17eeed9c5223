use Rattle.prt_dump.specs.Dump.{add_route}
use Rattle.prt_dump.proofs.Texts.{listed_command}
use Rattle.prt_dump.proofs.dump.push_routes.Goals as goal

pub loop-route-preserved : goal.loop-route-preserved
loop-route-preserved c = listed_command add_route c.args.routes.now c.loop-route.route-index c.route-item.result c.add_route.result _ _ _ c.loop-route-test.true c.route-item.is c.add_route.ensures c.loop-route.invariant c.in_ok-push_command.ensures
