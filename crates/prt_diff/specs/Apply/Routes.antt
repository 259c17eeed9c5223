-- Which routes differ: ip-route(8).
use Rattle.std.specs.Prelude.{Bool, not, ◌&&◌, ◌==◌, List, filter, bytes_eq}
use Rattle.std.specs.List.{list_any}
use Rattle.std.specs.Option.{option_eq}
use Rattle.prt_route.specs.Edit.{has_key}
use Rattle.prt_route.specs.Route.{is_same_key, key_of}
use Rattle.prt_route.specs.RouteChoice.{is_same_addr, is_same_kind}
use Rattle.prt_route.specs.declared.route.Route.{Route}

-- equal in all parts
abbrev pub is_same_route : Route → Route → Bool
is_same_route a b = is_same_key (key_of a) (key_of b) && is_same_kind a.kind b.kind && option_eq is_same_addr a.via b.via
    && option_eq bytes_eq a.dev b.dev && option_eq is_same_addr a.src b.src && a.proto == b.proto && a.scope == b.scope

abbrev pub has_route : Route → List Route → Bool
has_route route routes = list_any (λ other. is_same_route other route) routes

-- the wanted routes that are not found exactly so
abbrev pub missing_routes : List Route → List Route → List Route
missing_routes found wanted = filter (λ route. not (has_route route found)) wanted

-- the found routes whose key no wanted one has
abbrev pub unwanted_routes : List Route → List Route → List Route
unwanted_routes found wanted = filter (λ route. not (has_key (key_of route) wanted)) found
