-- Which routes a table may hold.
use Rattle.std.specs.Prelude.{◌^◌, Bool, ◌&&◌, ◌||◌, ◌==◌, nat_le, nat_lt, is_none, is_some}
use Rattle.prt_route.specs.Names.{global_scope}
use Rattle.prt_route.specs.declared.kind.Kind.{Kind}
use Rattle.prt_route.specs.declared.kind.Kind.TheVariants.{Unicast}
use Rattle.prt_route.specs.declared.route.Route.{Route}

-- a gateway or an interface
abbrev pub has_next_hop : Route → Bool
has_next_hop route = is_some route.via || is_some route.dev

-- no gateway, no interface, no source, and scope global
abbrev pub is_bare : Route → Bool
is_bare route = is_none route.via && is_none route.dev && is_none route.src && route.scope == global_scope

-- a unicast route has a next hop, a route of another kind is bare
abbrev pub suits : Kind → Route → Bool
suits Unicast route = has_next_hop route
suits _ route = is_bare route

-- a route of a table from 1 on that has what its kind requires
abbrev pub is_storable_route : Route → Bool
is_storable_route route = nat_le 1 route.table && nat_lt route.table (2 ^ 32) && suits route.kind route
