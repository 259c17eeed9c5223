use Rattle.std.proofs.Common.{take}
use Rattle.prt_trie.specs.Pieces.{AreParts}
use Rattle.prt_trie.proofs.parts.rows_of_parts.Given as goal

abbrev pub invariant-loop-row : goal.invariant-loop-row
invariant-loop-row l = AreParts l.cut 0 (take l.row-index l.rows) l.parts.items (λ part. part.items)
