use Rattle.std.proofs.Common.{ap, subst, sym, ◌∙◌}
use Rattle.prt_route.specs.Edit.{after_edit}
use Rattle.prt_trie.specs.Table.{IsTable}
use Rattle.prt_trie.proofs.Wholes.{table_after}
use Rattle.prt_trie.proofs.chunks.Chunks.flushed.Goals as goal

pub from_sorted-requires : goal.from_sorted-requires
from_sorted-requires c =
    subst IsTable (sym (c.as_slice-2.ensures.value ∙ c.in_ok-rows-2.ensures ∙ ap (after_edit c.args.flush.now) (c.as_slice.ensures.value ∙ c.in_ok-rows.ensures.value)))
    (table_after c.args.flush.now c.args.self.now (subst IsTable c.self.view_is c.self.invariant.0.table) c.requires c.read_edit.ensures.prefix c.read_edit.ensures.metric)
