use Rattle.std.proofs.Common.{◌≡◌, ◌++◌, map, take}
use Rattle.prt_listing.specs.QueryText.{lines_text}
use Rattle.prt_listing.specs.RouteText.{route_text}
use Rattle.prt_listing.proofs.query.push_routes.Given as goal

abbrev pub invariant-loop-route : goal.invariant-loop-route
invariant-loop-route l = l.out.items ≡ l.fn.out.items ++ lines_text (map (λ route. route_text route l.table) (take l.route-index l.routes))
