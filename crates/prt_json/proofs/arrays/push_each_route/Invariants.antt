use Rattle.std.proofs.Common.{◌≡◌, ◌++◌, map, take}
use Rattle.prt_json.specs.RouteJson.{route_json}
use Rattle.prt_json.specs.Steps.{values_tokens}
use Rattle.prt_json.proofs.arrays.push_each_route.Given as goal

abbrev pub invariant-loop-route : goal.invariant-loop-route
invariant-loop-route l = record { tokens : l.out.tokens ≡ l.fn.out.tokens ++ values_tokens (map (λ route. route_json l.fn.selector route) (take l.route-index l.routes)); before : l.out.before ≡ l.fn.out.before }
