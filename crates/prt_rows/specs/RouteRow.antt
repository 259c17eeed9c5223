-- The table of routes.
use Rattle.std.specs.Prelude.{ℕ, List, [], ◌∷◌, codes}
use Rattle.sqlite.specs.Kind.TheVariants.{Integer, Text}
use Rattle.sqlite_value.specs.Order.{Row}
use Rattle.prt_addr.specs.Sound.{IsPrefix}
use Rattle.prt_route.specs.declared.kind.Kind.{Kind}
use Rattle.prt_route.specs.declared.kind.Kind.TheVariants.{Unicast, Blackhole, Unreachable, Prohibit, Throw}
use Rattle.prt_route.specs.declared.route.Route.{Route}
use Rattle.prt_rows.specs.Cell.{IsByte, IsNumber, IsOptionalAddr, IsOptionalName, number, optional_addr, optional_name}
use Rattle.prt_rows.specs.Columns.{Column, row_of}

abbrev pub kind_code : Kind → ℕ
kind_code Unicast = 1
kind_code Blackhole = 6
kind_code Unreachable = 7
kind_code Prohibit = 8
kind_code Throw = 9

abbrev pub route_columns : List (Column Route)
route_columns =
    (codes "tbl", Integer, λ route. number route.table)
    ∷ (codes "net", Integer, λ route. number route.prefix.bits)
    ∷ (codes "len", Integer, λ route. number route.prefix.len)
    ∷ (codes "metric", Integer, λ route. number route.metric)
    ∷ (codes "kind", Integer, λ route. number (kind_code route.kind))
    ∷ (codes "via", Integer, λ route. optional_addr route.via)
    ∷ (codes "dev", Text, λ route. optional_name route.dev)
    ∷ (codes "src", Integer, λ route. optional_addr route.src)
    ∷ (codes "proto", Integer, λ route. number route.proto)
    ∷ (codes "scope", Integer, λ route. number route.scope)
    ∷ []

abbrev pub route_row : Route → Row
route_row = row_of route_columns

-- each value is in the range of its column
pub record IsInRange (route : Route) : Type 0 where
  pub table : IsNumber route.table
  pub prefix : IsPrefix route.prefix
  pub metric : IsNumber route.metric
  pub via : IsOptionalAddr route.via
  pub dev : IsOptionalName route.dev
  pub src : IsOptionalAddr route.src
  pub proto : IsByte route.proto
  pub scope : IsByte route.scope
