use Rattle.std.proofs.Common.{◌≡◌, length, take}
use Rattle.std.specs.Prelude.{sum_by}
use Rattle.std.specs.Arc.{arc_value}
use Rattle.prt_trie.proofs.pieces.count_rows.Given as goal

abbrev pub invariant-loop-piece : goal.invariant-loop-piece
invariant-loop-piece g l = l.count ≡ sum_by (λ piece. length (g.P.Piece.routes (arc_value piece))) (take l.piece-index l.pieces)
