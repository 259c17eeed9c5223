use Rattle.std.proofs.Common.{◌+◌, ◌∙◌, get_or, rules, sym}
use Rattle.std.proofs.lemmas.List.Sorted.{answers_always}
use Rattle.std.proofs.lemmas.Map.Keys.{IsDistinct-IsPermutation}
use Rattle.prt_rule.specs.Rule.{is_before}
use Rattle.prt_rule.specs.declared.rule.Rule.{Rule}
use Rattle.prt_version.specs.Ordered.{has_same_id}
use Rattle.prt_version.proofs.RowOrder.{by_priority, either_before, ids_both_ways}
use Rattle.prt_version.proofs.RuleOrder.{rule_order}
use Rattle.prt_version.proofs.SortedRows.{sorted_rises}
use Rattle.prt_version.proofs.from_rows.sort_rules.Goals as goal

pub returns-clause-order : goal.returns-clause-order
returns-clause-order c =
    let rows = c.sort_unstable_by_key.new.self.items in
    sorted_rises is_before has_same_id rule_order either_before rows
    (λ k d low inside. sym (by_priority (get_or rows (k + 1) d) (get_or rows k d)) ∙ c.sort_unstable_by_key.ensures.sorted (λ (rule : Rule). (rule.priority, rule.id)) (answers_always _ _ _ (λ f a r g h. search rules)) k d low inside)
    (IsDistinct-IsPermutation has_same_id ids_both_ways _ rows c.sort_unstable_by_key.ensures.permutation c.requires)
