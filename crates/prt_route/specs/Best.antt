-- Longest match, then best metric: RFC 1812, section 5.2.4.3.
use Rattle.std.specs.Prelude.{ℕ, Bool, ◌&&◌, ◌==◌, List, filter, Option}
use Rattle.prt_addr.specs.Order.{first_by}
use Rattle.prt_addr.specs.Prefix.{contains}
use Rattle.prt_addr.specs.declared.addr.Addr.{Addr}
use Rattle.prt_route.specs.declared.route.Route.{Route}
use Rattle.prt_route.specs.Route.{is_better}

-- the route is of the table, and its prefix contains the address
abbrev pub is_candidate : ℕ → Addr → Route → Bool
is_candidate table addr route = route.table == table && contains route.prefix addr

abbrev pub candidates : List Route → ℕ → Addr → List Route
candidates routes table addr = filter (is_candidate table addr) routes

-- the candidate that no candidate is better than: it is the only one if no two routes have the same key
abbrev pub best : List Route → ℕ → Addr → Option Route
best routes table addr = first_by is_better (candidates routes table addr)
