use Rattle.std.proofs.Common.{◌∙◌}
use Rattle.prt_json.specs.RouteJson.{route_json}
use Rattle.prt_json.proofs.Tokens.{more_values}
use Rattle.prt_json.proofs.arrays.push_each_route.Goals as goal

pub loop-route-preserved : goal.loop-route-preserved
loop-route-preserved c = record {
  tokens = more_values (λ route. route_json c.args.selector.now route) c.args.routes.now c.loop-route.route-index c.route-item.result _ _ _ c.loop-route-test.true c.route-item.is c.loop-route.invariant.tokens (rw c.route_fields.ensures at c.in_ok-push_object.ensures.ok);
  before = c.in_ok-push_object.ensures.before ∙ c.loop-route.invariant.before;
}
