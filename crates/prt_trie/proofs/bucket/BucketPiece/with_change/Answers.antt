use Rattle.std.proofs.Common.{ap, subst, sym, ◌∙◌}
use Rattle.prt_route.proofs.Edits.{edit_rises}
use Rattle.prt_trie.specs.Layout.{rows_of}
use Rattle.prt_trie.specs.Pieces.{IsOfTheirTable}
use Rattle.prt_trie.specs.Table.{IsOfOneTable, IsRising}
use Rattle.prt_trie.proofs.Wholes.{one_table_after}
use Rattle.prt_trie.proofs.bucket.BucketPiece.with_change.Goals as goal

pub from_sorted-requires-clause-one_table : goal.from_sorted-requires-clause-one_table
from_sorted-requires-clause-one_table c = subst IsOfOneTable (sym c.in_ok-rows-in-Few.ensures.value) (one_table_after c.args.edit.now c.in-Few.leaf (subst (IsOfTheirTable c.args.edit.now) (sym c.self.view_is ∙ ap rows_of c.in-Few.is) c.requires) c.rows_after.ensures.table.one_table)

pub from_sorted-requires-clause-rising : goal.from_sorted-requires-clause-rising
from_sorted-requires-clause-rising c = subst IsRising (sym c.in_ok-rows-in-Few.ensures.value) (edit_rises c.args.edit.now c.in-Few.leaf c.rows_after.ensures.table.rising)
