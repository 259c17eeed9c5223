use Rattle.std.proofs.Common.{rules}
use Rattle.std.proofs.lemmas.List.Sorted.{answers_always}
use Rattle.prt_rule.specs.Same.{is_same_rule}
use Rattle.prt_version.specs.Content.{is_content_before}
use Rattle.prt_version.proofs.Contents.{content_differs, content_order, either_content}
use Rattle.prt_version.proofs.SortedRows.{distinct_decided}
use Rattle.prt_version.proofs.from_rows.are_unlike.Goals as goal

pub returns-clause-value : goal.returns-clause-value
returns-clause-value c =
    distinct_decided is_content_before is_same_rule content_order either_content content_differs c.sort_unstable_by.new.self.items _ c.is_sorted_by.result c.deref.ensures.value
    (c.sort_unstable_by.ensures.sorted is_content_before content_order (answers_always _ _ _ (λ f a r g h. search rules)))
    (c.is_sorted_by.ensures.cases is_content_before (answers_always _ _ _ (λ f a r g h. search rules)))
