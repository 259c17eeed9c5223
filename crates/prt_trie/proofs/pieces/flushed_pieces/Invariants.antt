use Rattle.std.proofs.Common.{◌≡◌, map}
use Rattle.std.specs.Arc.{arc_value}
use Rattle.prt_route.specs.Edit.{after_edit}
use Rattle.prt_trie.specs.Pieces.{pieces_by, rows_of_pieces}
use Rattle.prt_trie.proofs.pieces.flushed_pieces.Given as goal

abbrev pub invariant-loop-number : goal.invariant-loop-number
invariant-loop-number g l =
    map (λ piece. g.P.Piece.routes (arc_value piece)) l.after.items ≡ pieces_by l.fn.cut 0 l.number (after_edit l.flush (rows_of_pieces (map (λ piece. g.P.Piece.routes (arc_value piece)) l.pieces)))
