use Rattle.std.proofs.Common.{◌≡◌, rules, true, false, ◌∙◌}
use Rattle.std.specs.List.Sorted.{IsPartitionPoint}
use Rattle.std.proofs.lemmas.List.Sorted.{IsPartitionPoint-from_clause}
use Rattle.prt_diff.proofs.Applying.RuleWalks.{back_is, front_is, is_up_to, up_to_parted}
use Rattle.prt_diff.proofs.apply.rules.split_behind.Goals as goal

pub returns-clause-front : goal.returns-clause-front
returns-clause-front c =
    let point : IsPartitionPoint (λ y. is_up_to c.args.priority y ≡ true) (λ y. is_up_to c.args.priority y ≡ false) c.args.rules.now c.partition_point.result =
    IsPartitionPoint-from_clause (is_up_to c.args.priority) c.args.rules.now c.partition_point.result c.partition_point.ensures.partitioned (up_to_parted c.args.rules.now c.args.priority c.requires) (λ a r f' k. search rules) in
    c.split_at.ensures.front ∙ front_is c.args.priority c.partition_point.result c.args.rules.now c.partition_point.ensures.bound point

pub returns-clause-back : goal.returns-clause-back
returns-clause-back c =
    let point : IsPartitionPoint (λ y. is_up_to c.args.priority y ≡ true) (λ y. is_up_to c.args.priority y ≡ false) c.args.rules.now c.partition_point.result =
    IsPartitionPoint-from_clause (is_up_to c.args.priority) c.args.rules.now c.partition_point.result c.partition_point.ensures.partitioned (up_to_parted c.args.rules.now c.args.priority c.requires) (λ a r f' k. search rules) in
    c.split_at.ensures.back ∙ back_is c.args.priority c.partition_point.result c.args.rules.now c.partition_point.ensures.bound point
