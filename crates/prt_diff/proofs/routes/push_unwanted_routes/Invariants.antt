use Rattle.std.proofs.Common.{◌≡◌, ◌++◌, map, take}
use Rattle.std.specs.Prelude.{filter}
use Rattle.prt_diff.specs.Routes.{delete_route}
use Rattle.prt_diff.proofs.Finds.{is_unwanted}
use Rattle.prt_diff.proofs.routes.push_unwanted_routes.Given as goal

abbrev pub invariant-loop-route : goal.invariant-loop-route
invariant-loop-route l = l.commands.items ≡ l.fn.commands.items ++ map delete_route (filter (is_unwanted l.fence l.found l.wanted) (take l.route-index l.found))
