use Rattle.std.proofs.Common.{◌≡◌, map}
use Rattle.std.specs.Arc.{arc_value}
use Rattle.prt_trie.specs.Pieces.{AreParts, pieces_by}
use Rattle.prt_trie.proofs.pieces.Pieces.from_sorted.Given as goal

abbrev pub invariant-loop-number : goal.invariant-loop-number
invariant-loop-number g l = record {
  parts : AreParts l.cut l.number l.rows l.parts.items (λ part. part.items);
  made : map (λ piece. g.P.Piece.routes (arc_value piece)) l.pieces.items ≡ pieces_by l.cut 0 l.number l.rows;
}
