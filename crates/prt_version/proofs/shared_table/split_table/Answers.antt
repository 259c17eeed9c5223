use Rattle.std.proofs.Common.{◌≡◌, leb, rules, subst, sym, true, false, ◌<◌}
use Rattle.std.specs.List.{AllByRecursion as Each}
use Rattle.std.specs.List.Sorted.{IsPartitionPoint}
use Rattle.std.proofs.lemmas.List.Sorted.{IsPartitionPoint-from_clause}
use Rattle.prt_route.specs.declared.route.Route.{Route}
use Rattle.prt_version.proofs.Runs.{higher_rows, own_rows, some_first, tables_parted}
use Rattle.prt_version.proofs.shared_table.split_table.Goals as goal

parts : (c : goal.After-split_at) → IsPartitionPoint (λ (row : Route). leb row.table c.args.number ≡ true) (λ row. leb row.table c.args.number ≡ false) c.args.rows.now c.partition_point.result
parts c =
    IsPartitionPoint-from_clause (λ (row : Route). leb row.table c.args.number) c.args.rows.now c.partition_point.result c.partition_point.ensures.partitioned
    (tables_parted c.args.rows.now c.args.number c.requires.rising)
    (λ a r f' k. search rules)

pub returns-clause-own : goal.returns-clause-own
returns-clause-own c = subst (Each (λ (row : Route). row.table ≡ c.args.number)) (sym c.split_at.ensures.front) (own_rows c.args.rows.now c.args.number c.partition_point.result c.requires.rising c.requires.first c.partition_point.ensures.bound (parts c))

pub returns-clause-some : goal.returns-clause-some
returns-clause-some c = subst (λ n. 0 < n) (sym c.split_at.ensures.front_len) (some_first c.args.rows.now c.args.number c.partition_point.result c.requires.some c.requires.first (parts c))

pub returns-clause-higher : goal.returns-clause-higher
returns-clause-higher c = subst (Each (λ (row : Route). c.args.number < row.table)) (sym c.split_at.ensures.back) (higher_rows c.args.rows.now c.args.number c.partition_point.result c.requires.rising c.requires.first c.partition_point.ensures.bound (parts c))
