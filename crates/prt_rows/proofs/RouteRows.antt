-- A row encodes at most one route.
use Rattle.std.proofs.Common.{◌≡◌, ap}
use Rattle.sqlite_value.specs.Order.{Row, column}
use Rattle.prt_route.specs.declared.route.Route.{Route}
use Rattle.prt_rows.specs.RouteRow.{IsInRange, route_row}
use Rattle.prt_rows.proofs.Cells.{same_number, same_optional_addr, same_optional_name}
use Rattle.prt_rows.proofs.Codes.{same_kind}

pub same_route : (route other : Route) → IsInRange route → IsInRange other → route_row route ≡ route_row other → route ≡ other
same_route route other left right is =
    let at = λ (n : _) (row : Row). column row n in
    λ i. record {
      table = same_number route.table other.table (ap (at 0) is) i;
      prefix = record { bits = same_number route.prefix.bits other.prefix.bits (ap (at 1) is) i; len = same_number route.prefix.len other.prefix.len (ap (at 2) is) i };
      metric = same_number route.metric other.metric (ap (at 3) is) i;
      kind = same_kind route.kind other.kind (same_number _ _ (ap (at 4) is)) i;
      via = same_optional_addr route.via other.via (ap (at 5) is) i;
      dev = same_optional_name route.dev other.dev left.dev right.dev (ap (at 6) is) i;
      src = same_optional_addr route.src other.src (ap (at 7) is) i;
      proto = same_number route.proto other.proto (ap (at 8) is) i;
      scope = same_number route.scope other.scope (ap (at 9) is) i;
    }
