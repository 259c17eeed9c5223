-- Which found route serves for a wanted one: ip-route(8).
use Rattle.std.specs.Prelude.{Bool, ◌&&◌, ◌||◌, ◌==◌, List, is_none}
use Rattle.std.specs.List.{list_any}
use Rattle.std.specs.Option.{option_eq}
use Rattle.prt_route.specs.Route.{is_same_key, key_of}
use Rattle.prt_route.specs.RouteChoice.{is_same_addr, is_same_kind}
use Rattle.prt_route.specs.declared.route.Route.{Route}
use Rattle.prt_diff.specs.Fence.{is_kernels}
use Rattle.prt_diff.specs.Routes.{agrees, agrees_on_dev}

-- The kernel made the route itself: as it is wanted, except for its protocol, and for a source that is not named.
abbrev pub is_made_alike : Route → Route → Bool
is_made_alike wanted found = is_same_key (key_of wanted) (key_of found) && is_kernels found && is_same_kind wanted.kind found.kind
    && option_eq is_same_addr wanted.via found.via && agrees_on_dev wanted found
    && (is_none wanted.src || option_eq is_same_addr wanted.src found.src) && wanted.scope == found.scope

-- the route that is found is as it is wanted, or the kernel made it so
abbrev pub serves : Route → Route → Bool
serves wanted found = agrees wanted found || is_made_alike wanted found

abbrev pub has_serving : Route → List Route → Bool
has_serving route routes = list_any (serves route) routes
