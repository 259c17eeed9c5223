use Rattle.std.proofs.Common.{◌+◌, ◌∙◌, get_or, rules, sym}
use Rattle.std.proofs.lemmas.List.Sorted.{answers_always}
use Rattle.prt_rule.specs.declared.rule.Rule.{Rule}
use Rattle.prt_version.specs.Ordered.{has_same_id}
use Rattle.prt_version.proofs.RowOrder.{by_id, either_id, has_lower_id, id_differs, id_order}
use Rattle.prt_version.proofs.SortedRows.{distinct_decided}
use Rattle.prt_version.proofs.from_rows.have_distinct_ids.Goals as goal

pub returns-clause-value : goal.returns-clause-value
returns-clause-value c =
    let rows = c.sort_unstable_by_key.new.self.items in
    distinct_decided has_lower_id has_same_id id_order either_id id_differs rows _ c.is_sorted_by.result c.deref.ensures.value
    (λ k d low inside. sym (by_id (get_or rows (k + 1) d) (get_or rows k d)) ∙ c.sort_unstable_by_key.ensures.sorted (λ (rule : Rule). rule.id) (answers_always _ _ _ (λ f a r g h. search rules)) k d low inside)
    (c.is_sorted_by.ensures.cases has_lower_id (answers_always _ _ _ (λ f a r g h. search rules)))
