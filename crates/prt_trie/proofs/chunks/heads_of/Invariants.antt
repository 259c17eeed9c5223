use Rattle.std.proofs.Common.{◌≡◌, map, take}
use Rattle.std.specs.Arc.{arc_value}
use Rattle.prt_trie.specs.Chunks.{heads_of}
use Rattle.prt_trie.proofs.chunks.heads_of.Given as goal

abbrev pub invariant-loop-chunk : goal.invariant-loop-chunk
invariant-loop-chunk l = l.heads.items ≡ heads_of (map arc_value (take l.chunk-index l.chunks))
