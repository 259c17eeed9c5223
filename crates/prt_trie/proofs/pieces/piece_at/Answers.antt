use Rattle.std.proofs.Common.{arith, ap, ◌∙◌}
use Rattle.std.specs.Arc.{arc_value}
use Rattle.prt_trie.proofs.Wholes.{length_whole, rows_at}
use Rattle.prt_trie.proofs.pieces.piece_at.Goals as goal

pub bounds-pieces-number : goal.bounds-pieces-number
bounds-pieces-number g c = omega (arith, length_whole c.args.cut (λ piece. g.P.Piece.routes (arc_value piece)) c.args.pieces.now c.requires.whole)

pub returns : goal.returns
returns g c =
    ap g.P.Piece.routes c.deref.ensures
    ∙ rows_at c.args.cut (λ piece. g.P.Piece.routes (arc_value piece)) c.args.pieces.now c.args.number c.index-pieces-number.result c.requires.whole c.requires.number
    (omega (arith, length_whole c.args.cut (λ piece. g.P.Piece.routes (arc_value piece)) c.args.pieces.now c.requires.whole)) c.index-pieces-number.is
