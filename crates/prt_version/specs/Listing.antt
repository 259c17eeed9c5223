-- The routes of a listing, in order.
use Rattle.std.specs.Prelude.{List, filter}
use Rattle.prt_route.specs.RouteChoice.{is_selected}
use Rattle.prt_route.specs.declared.choice.Selector.{Selector}
use Rattle.prt_route.specs.declared.route.Route.{Route}

-- those that the selector takes; the routes of a state are in the order of listings
abbrev pub listing : Selector → List Route → List Route
listing selector routes = filter (is_selected selector) routes
