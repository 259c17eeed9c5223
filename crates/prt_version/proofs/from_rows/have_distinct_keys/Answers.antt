use Rattle.std.proofs.Common.{◌≡◌, ◌+◌, ◌∙◌, get_or, rules, sym}
use Rattle.std.specs.List.{IsAllAdjacentAnswer}
use Rattle.std.proofs.lemmas.List.Sorted.{answers_always}
use Rattle.prt_route.specs.Route.{is_listed_before}
use Rattle.prt_route.specs.declared.route.Route.{Route}
use Rattle.prt_route.proofs.Edits.{listing_order}
use Rattle.prt_trie.specs.Table.{has_same_key}
use Rattle.prt_trie.proofs.Order.{by_tuple}
use Rattle.prt_version.proofs.RowOrder.{either_listed, key_differs}
use Rattle.prt_version.proofs.SortedRows.{distinct_decided, rises_if}
use Rattle.prt_version.proofs.from_rows.have_distinct_keys.Goals as goal

in_order : (c : goal.After-is_sorted_by) → IsAllAdjacentAnswer (λ route next answer. answer ≡ is_listed_before route next) c.deref.result.now c.is_sorted_by.result
in_order c = c.is_sorted_by.ensures.cases is_listed_before (answers_always _ _ _ (λ f a r g h. search rules))

pub returns-clause-value : goal.returns-clause-value
returns-clause-value c =
    let rows = c.sort_unstable_by_key.new.self.items in
    distinct_decided is_listed_before has_same_key listing_order either_listed key_differs rows _ c.is_sorted_by.result c.deref.ensures.value
    (λ k d low inside. sym (by_tuple (get_or rows (k + 1) d) (get_or rows k d)) ∙ c.sort_unstable_by_key.ensures.sorted (λ (row : Route). (row.table, row.prefix.bits, row.prefix.len, row.metric)) (answers_always _ _ _ (λ f a r g h. search rules)) k d low inside)
    (in_order c)

pub returns-clause-order : goal.returns-clause-order
returns-clause-order c = rises_if is_listed_before listing_order c.sort_unstable_by_key.new.self.items _ c.is_sorted_by.result c.deref.ensures.value (in_order c)
