use Rattle.std.proofs.Common.{rules, ◌-◌, length, take, drop}
use Rattle.std.specs.Prelude.{nat_le, nat_lt}
use Rattle.std.proofs.lemmas.List.Sorted.{IsPartitionPoint-from_clause}
use Rattle.prt_rule.specs.declared.rule.Rule.{Rule}
use Rattle.prt_diff.proofs.RuleRuns.{lower_parted, rest_parted, run_is}
use Rattle.prt_diff.proofs.rules.rules_at.Goals as goal

pub returns : goal.returns
returns c =
    let rows = c.args.rules.now in
    let start = c.partition_point.result in
    run_is c.args.priority start c.partition_point-2.result rows c.partition_point.ensures.bound c.partition_point-2.ensures.bound
    (IsPartitionPoint-from_clause (λ (rule : Rule). nat_lt rule.priority c.args.priority) rows start c.partition_point.ensures.partitioned (lower_parted rows c.args.priority c.requires) (λ a r f' k. search rules))
    (IsPartitionPoint-from_clause (λ (rule : Rule). nat_le rule.priority c.args.priority) (take (length rows - start) (drop start rows)) c.partition_point-2.result c.partition_point-2.ensures.partitioned (rest_parted rows start c.args.priority c.requires) (λ a r f' k. search rules))
