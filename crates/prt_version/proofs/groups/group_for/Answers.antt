use Rattle.std.proofs.Common.{◌≡◌, ◌-◌, leb, rules, true, false}
use Rattle.std.specs.List.Sorted.{IsPartitionPoint}
use Rattle.std.proofs.lemmas.List.Sorted.{IsPartitionPoint-from_clause}
use Rattle.prt_version.specs.Groups.{TableGroup}
use Rattle.prt_version.proofs.Grouped.{groups_parted, higher_tables, lower_tables, place_bound}
use Rattle.prt_version.proofs.groups.group_for.Goals as goal

parts : (c : goal.After-saturating_sub) → IsPartitionPoint (λ (group : TableGroup). leb group.first c.args.number ≡ true) (λ group. leb group.first c.args.number ≡ false) c.args.groups.now c.partition_point.result
parts c =
    IsPartitionPoint-from_clause (λ (group : TableGroup). leb group.first c.args.number) c.args.groups.now c.partition_point.result c.partition_point.ensures.partitioned
    (groups_parted c.args.groups.now c.args.number c.requires.are)
    (λ a r f' k. search rules)

is_before : (c : goal.After-saturating_sub) → c.saturating_sub.result ≡ c.partition_point.result - 1
is_before c = search rules

pub returns-clause-bound : goal.returns-clause-bound
returns-clause-bound c = place_bound c.args.groups.now c.args.number c.partition_point.result c.saturating_sub.result c.requires.are c.requires.some c.partition_point.ensures.bound (parts c) (is_before c)

pub returns-clause-lower : goal.returns-clause-lower
returns-clause-lower c = lower_tables c.args.groups.now c.args.number c.partition_point.result c.saturating_sub.result c.requires.are c.requires.some c.partition_point.ensures.bound (parts c) (is_before c)

pub returns-clause-higher : goal.returns-clause-higher
returns-clause-higher c = higher_tables c.args.groups.now c.args.number c.partition_point.result c.saturating_sub.result c.requires.are c.requires.some c.partition_point.ensures.bound (parts c) (is_before c)
