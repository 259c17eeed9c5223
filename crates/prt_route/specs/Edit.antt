-- What an edit makes of a list of routes.
use Rattle.std.specs.Prelude.{Bool, not, List, filter}
use Rattle.std.specs.List.{list_any}
use Rattle.prt_addr.specs.Order.{insert_by}
use Rattle.prt_route.specs.Route.{is_listed_before, is_same_key, key_of}
use Rattle.prt_route.specs.RouteChoice.{is_selected}
use Rattle.prt_route.specs.declared.edit.RouteEdit.{RouteEdit}
use Rattle.prt_route.specs.declared.edit.RouteEdit.TheVariants.{Put, Remove, Flush}
use Rattle.prt_route.specs.declared.route.Route.{Route}
use Rattle.prt_route.specs.declared.route.RouteKey.{RouteKey}

abbrev pub has_key : RouteKey → List Route → Bool
has_key key routes = list_any (λ route. is_same_key (key_of route) key) routes

-- the routes except the one that has this key
abbrev pub without_key : RouteKey → List Route → List Route
without_key key routes = filter (λ route. not (is_same_key (key_of route) key)) routes

-- the routes after an edit, in the order of listings
abbrev pub after_edit : RouteEdit → List Route → List Route
after_edit (Put route) routes = insert_by is_listed_before route (without_key (key_of route) routes)
after_edit (Remove key) routes = without_key key routes
after_edit (Flush selector) routes = filter (λ route. not (is_selected selector route)) routes
