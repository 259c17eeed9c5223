-- Which routes a command names, by what it specifies: ip-route(8).
use Rattle.std.specs.Prelude.{ℕ, Bool, true, false, ◌&&◌, ◌||◌, ◌==◌, List, filter, Option, Some, None, bytes_eq}
use Rattle.prt_addr.specs.Block.{Block}
use Rattle.prt_addr.specs.Given.{agrees, agrees_there}
use Rattle.prt_addr.specs.Order.{first_by}
use Rattle.prt_addr.specs.Prefix.{is_same_prefix, within}
use Rattle.prt_addr.specs.declared.addr.Addr.{Addr}
use Rattle.prt_route.specs.Route.{has_lower_metric}
use Rattle.prt_route.specs.declared.choice.Range.{Range}
use Rattle.prt_route.specs.declared.choice.Range.TheVariants.{All, Root, Covering, Exact}
use Rattle.prt_route.specs.declared.choice.RouteChoice.{RouteChoice}
use Rattle.prt_route.specs.declared.choice.Selector.{Selector}
use Rattle.prt_route.specs.declared.kind.Kind.{Kind}
use Rattle.prt_route.specs.declared.kind.Kind.TheVariants.{Unicast, Blackhole, Unreachable, Prohibit, Throw}
use Rattle.prt_route.specs.declared.route.Route.{Route}

abbrev pub is_same_kind : Kind → Kind → Bool
is_same_kind Unicast Unicast = true
is_same_kind Blackhole Blackhole = true
is_same_kind Unreachable Unreachable = true
is_same_kind Prohibit Prohibit = true
is_same_kind Throw Throw = true
is_same_kind _ _ = false

abbrev pub is_same_addr : Addr → Addr → Bool
is_same_addr a b = a.0 == b.0

-- `root P` takes the prefixes within P, `match P` those that P is within, and `exact P` takes P
abbrev pub in_range : Range → Block → Bool
in_range All prefix = true
in_range (Root block) prefix = within prefix block
in_range (Covering block) prefix = within block prefix
in_range (Exact block) prefix = is_same_prefix block prefix

-- the route is of the table and in the range, and agrees with all else that is given
abbrev pub is_selected : Selector → Route → Bool
is_selected selector route =
    agrees (λ a b. a == b) selector.table route.table
    && in_range selector.range route.prefix
    && agrees is_same_kind selector.kind route.kind
    && agrees (λ a b. a == b) selector.proto route.proto
    && agrees (λ a b. a == b) selector.scope route.scope
    && agrees_there bytes_eq selector.dev route.dev

-- the metric is the one that is given; 0 counts as not given
abbrev pub takes_metric : Option ℕ → ℕ → Bool
takes_metric None metric = true
takes_metric (Some given) metric = given == 0 || given == metric

-- the route is of the table and has the prefix, and agrees with all else that is given
abbrev pub is_chosen : RouteChoice → Route → Bool
is_chosen choice route =
    choice.table == route.table
    && is_same_prefix choice.prefix route.prefix
    && takes_metric choice.metric route.metric
    && agrees is_same_kind choice.kind route.kind
    && agrees_there is_same_addr choice.via route.via
    && agrees_there bytes_eq choice.dev route.dev
    && agrees_there is_same_addr choice.src route.src
    && agrees (λ a b. a == b) choice.proto route.proto
    && agrees (λ a b. a == b) choice.scope route.scope

-- the one of lowest metric among those that the choice takes
abbrev pub chosen_route : RouteChoice → List Route → Option Route
chosen_route choice routes = first_by has_lower_metric (filter (is_chosen choice) routes)
