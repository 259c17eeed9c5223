use Rattle.std.proofs.Common.{◌≡◌, List, subst, sym, ap, ◌∙◌}
use Rattle.prt_route.proofs.Edits.{edit_rises}
use Rattle.prt_route.specs.Edit.{after_edit}
use Rattle.prt_route.specs.declared.route.Route.{Route}
use Rattle.prt_trie.specs.Table.{IsOfOneTable, IsRising, IsTable}
use Rattle.prt_trie.proofs.Wholes.{one_table_after}
use Rattle.prt_trie.proofs.tree.divided.Goals as goal

bucket_table : (c : goal.In_ok-rows-2) → IsTable c.args.bucket.now
bucket_table c = subst IsTable c.in_ok-rows.ensures.value c.in_ok-rows.ensures.table

after_is : (c : goal.In_ok-rows-2) → c.in_ok-rows-2.rows.items ≡ after_edit c.args.edit.now c.args.bucket.now
after_is c = c.in_ok-rows-2.ensures ∙ ap (after_edit c.args.edit.now) (c.as_slice.ensures.value ∙ c.in_ok-rows.ensures.value)

pub from_sorted-requires-clause-one_table : goal.from_sorted-requires-clause-one_table
from_sorted-requires-clause-one_table c = subst IsOfOneTable (sym (after_is c)) (one_table_after c.args.edit.now c.args.bucket.now c.requires (bucket_table c).one_table)

pub from_sorted-requires-clause-rising : goal.from_sorted-requires-clause-rising
from_sorted-requires-clause-rising c = subst IsRising (sym (after_is c)) (edit_rises c.args.edit.now c.args.bucket.now (bucket_table c).rising)
