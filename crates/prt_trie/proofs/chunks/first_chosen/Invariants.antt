use Rattle.std.proofs.Common.{◌≡◌, drop, find, map}
use Rattle.std.specs.Arc.{arc_value}
use Rattle.prt_route.specs.RouteChoice.{is_chosen}
use Rattle.prt_trie.specs.Chunks.{rows_of_chunks}
use Rattle.prt_trie.proofs.chunks.first_chosen.Given as goal

abbrev pub invariant-loop-chunk : goal.invariant-loop-chunk
invariant-loop-chunk l = find (is_chosen l.choice) (rows_of_chunks (map arc_value (drop l.chunk-index l.chunks))) ≡ find (is_chosen l.choice) (rows_of_chunks (map arc_value l.chunks))
