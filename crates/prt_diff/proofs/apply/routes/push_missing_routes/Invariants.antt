use Rattle.std.proofs.Common.{◌≡◌, ◌++◌, map, drop}
use Rattle.prt_addr.specs.Rising.{IsRising}
use Rattle.prt_route.specs.Route.{is_listed_before}
use Rattle.prt_diff.specs.Routes.{replace_route}
use Rattle.prt_diff.specs.Apply.Routes.{missing_routes}
use Rattle.prt_diff.proofs.apply.routes.push_missing_routes.Given as goal

abbrev pub invariant-loop-route : goal.invariant-loop-route
invariant-loop-route l = record {
  rises : IsRising is_listed_before l.rest;
  held : l.commands.items ++ map replace_route (missing_routes l.rest (drop l.route-index l.wanted)) ≡ l.fn.commands.items ++ map replace_route (missing_routes l.found l.wanted);
}
