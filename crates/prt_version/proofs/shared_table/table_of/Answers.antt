use Rattle.std.proofs.Common.{◌≡◌, refl, subst, sym}
use Rattle.std.specs.List.{AllByRecursion as Each}
use Rattle.prt_addr.specs.Rising.{IsRising}
use Rattle.prt_route.specs.Route.{is_listed_before}
use Rattle.prt_route.specs.declared.route.Route.{Route}
use Rattle.prt_version.proofs.shared_table.table_of.Goals as goal

pub table_of_rows-requires-clause-own : goal.table_of_rows-requires-clause-own
table_of_rows-requires-clause-own c = subst (Each (λ (row : Route). row.table ≡ c.args.route.now.table)) (sym c.from_ref.ensures.value) (refl, tt)

pub table_of_rows-requires-clause-rising : goal.table_of_rows-requires-clause-rising
table_of_rows-requires-clause-rising c = subst (IsRising is_listed_before) (sym c.from_ref.ensures.value) (tt, tt)
