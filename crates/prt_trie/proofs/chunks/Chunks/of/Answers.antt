use Rattle.std.proofs.Common.{map, ap, subst, sym, ◌∙◌}
use Rattle.std.specs.Arc.{arc_value}
use Rattle.prt_trie.specs.Chunks.{heads_of}
use Rattle.prt_trie.specs.Table.{IsOfOneTable, IsRising}
use Rattle.prt_trie.proofs.Heads.{heads_of_one_table, heads_rise}
use Rattle.prt_trie.proofs.chunks.Chunks.of.Goals as goal

pub from_sorted-requires-clause-one_table : goal.from_sorted-requires-clause-one_table
from_sorted-requires-clause-one_table c =
    subst IsOfOneTable (sym (c.in_ok-heads_of.ensures ∙ ap (λ chunks. heads_of (map arc_value chunks)) c.as_slice.ensures.value)) (heads_of_one_table (map arc_value c.args.chunks.items) c.requires.chunks.table.one_table)

pub from_sorted-requires-clause-rising : goal.from_sorted-requires-clause-rising
from_sorted-requires-clause-rising c =
    subst IsRising (sym (c.in_ok-heads_of.ensures ∙ ap (λ chunks. heads_of (map arc_value chunks)) c.as_slice.ensures.value)) (heads_rise (map arc_value c.args.chunks.items) c.requires.chunks.table.rising)
