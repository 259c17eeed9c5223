use Rattle.std.proofs.Common.{◌≡◌, List, map, arith, ap, subst, sym, ◌∙◌}
use Rattle.std.specs.Arc.{arc_value}
use Rattle.prt_route.specs.Edit.{after_edit}
use Rattle.prt_route.specs.declared.route.Route.{Route}
use Rattle.prt_trie.specs.Pieces.{rows_of_piece, rows_of_pieces}
use Rattle.prt_trie.proofs.Wholes.{flushed_piece, length_whole, no_pieces, pieces_step, rows_at}
use Rattle.prt_trie.proofs.pieces.flushed_pieces.Goals as goal

pub loop-number-init : goal.loop-number-init
loop-number-init g c =
    ap (map (λ piece. g.P.Piece.routes (arc_value piece))) c.in_ok-after.ensures.items
    ∙ sym (no_pieces c.args.cut (after_edit c.args.flush.now (rows_of_pieces (map (λ piece. g.P.Piece.routes (arc_value piece)) c.args.pieces.now))))

pub bounds-pieces-number : goal.bounds-pieces-number
bounds-pieces-number g c = omega (arith, length_whole c.args.cut (λ piece. g.P.Piece.routes (arc_value piece)) c.args.pieces.now c.requires.whole)

pub loop-number-preserved : goal.loop-number-preserved
loop-number-preserved g c =
    let rows : List Route = rows_of_pieces (map (λ piece. g.P.Piece.routes (arc_value piece)) c.args.pieces.now) in
    let own : g.P.Piece.routes (arc_value c.index-pieces-number.result) ≡ rows_of_piece c.args.cut c.loop-number.number rows =
    rows_at c.args.cut (λ piece. g.P.Piece.routes (arc_value piece)) c.args.pieces.now c.loop-number.number c.index-pieces-number.result c.requires.whole c.loop-number-test.true (omega (arith, length_whole c.args.cut (λ piece. g.P.Piece.routes (arc_value piece)) c.args.pieces.now c.requires.whole)) c.index-pieces-number.is in
    let flushed : after_edit c.args.flush.now (rows_of_piece c.args.cut c.loop-number.number rows) ≡ rows_of_piece c.args.cut c.loop-number.number (after_edit c.args.flush.now rows) =
    subst (λ edit. after_edit edit (rows_of_piece c.args.cut c.loop-number.number rows) ≡ rows_of_piece c.args.cut c.loop-number.number (after_edit edit rows)) (sym c.requires.flush) (flushed_piece c.args.cut c.args.selector.now c.loop-number.number rows) in
    pieces_step c.args.cut (λ piece. g.P.Piece.routes (arc_value piece)) _ _ c.in_ok-piece.piece c.loop-number.number (after_edit c.args.flush.now rows) c.in_ok-push.ensures.items c.loop-number.invariant
    (c.in_ok-piece.ensures.value ∙ ap (after_edit c.args.flush.now) own ∙ flushed)
