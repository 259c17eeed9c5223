-- Keys of routes, their order in listings, and which of two routes is better.
use Rattle.std.specs.Prelude.{ℕ, Bool, ◌&&◌, ◌||◌, ◌==◌, nat_lt}
use Rattle.prt_addr.specs.Prefix.{is_same_prefix}
use Rattle.prt_route.specs.declared.route.Route.{Route}
use Rattle.prt_route.specs.declared.route.RouteKey.{RouteKey}

abbrev pub key_of : Route → RouteKey
key_of route = record { table = route.table; prefix = route.prefix; metric = route.metric }

abbrev pub has_lower_metric : Route → Route → Bool
has_lower_metric route other = nat_lt route.metric other.metric

-- the prefix is longer, or of the same length with a lower metric
abbrev pub is_better : Route → Route → Bool
is_better route other = nat_lt other.prefix.len route.prefix.len || (route.prefix.len == other.prefix.len && has_lower_metric route other)

-- Keys are the same in all three parts.
abbrev pub is_same_key : RouteKey → RouteKey → Bool
is_same_key a b = a.table == b.table && is_same_prefix a.prefix b.prefix && a.metric == b.metric

-- the first number is less, or they are the same and what is compared next holds
abbrev pub less_then : ℕ → ℕ → Bool → Bool
less_then a b next = nat_lt a b || (a == b && next)

-- by table, address, length and metric: the order of listings
abbrev pub is_listed_before : Route → Route → Bool
is_listed_before a b = less_then a.table b.table (less_then a.prefix.bits b.prefix.bits (less_then a.prefix.len b.prefix.len (has_lower_metric a b)))
