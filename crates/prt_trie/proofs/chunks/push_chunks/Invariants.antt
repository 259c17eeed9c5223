use Rattle.std.proofs.Common.{◌≡◌, ◌++◌, length, map}
use Rattle.std.specs.Arc.{arc_value}
use Rattle.std.specs.List.{AllByRecursion as Each}
use Rattle.prt_trie.specs.Chunks.{IsChunk, rows_of_chunks}
use Rattle.prt_trie.proofs.chunks.push_chunks.Given as goal

abbrev pub invariant-divide : goal.invariant-divide
invariant-divide l = record {
  rows : rows_of_chunks (map arc_value l.chunks.items) ++ l.rest ≡ rows_of_chunks (map arc_value l.initial.chunks.items) ++ l.rows;
  each : Each IsChunk (map arc_value l.initial.chunks.items) → Each IsChunk (map arc_value l.chunks.items);
}

abbrev pub decreases-divide : goal.decreases-divide
decreases-divide l = length l.rest
