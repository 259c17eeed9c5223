use Rattle.std.proofs.Common.{◌≡◌, map, ap, subst, ◌∙◌}
use Rattle.std.specs.Prelude.{IfOk}
use Rattle.std.specs.Arc.{arc_value}
use Rattle.prt_route.specs.Edit.{after_edit}
use Rattle.prt_trie.specs.Pieces.{pieces_by, rows_of_pieces}
use Rattle.prt_trie.proofs.Wholes.{after_flush}
use Rattle.prt_trie.proofs.pieces.Pieces.flushed.Goals as goal

pub of-requires : goal.of-requires
of-requires g c =
    (after_flush c.self.inside.cut c.args.flush.now c.args.selector.now (rows_of_pieces (map (λ piece. g.P.Piece.routes (arc_value piece)) c.self.inside.pieces.items)) (map (λ piece. g.P.Piece.routes (arc_value piece)) c.in_ok-flushed_pieces.field-0.items) c.requires c.self.invariant.0.table
    (c.in_ok-flushed_pieces.ensures.value ∙ ap (λ xs. pieces_by c.self.inside.cut 0 257 (after_edit c.args.flush.now (rows_of_pieces (map (λ piece. g.P.Piece.routes (arc_value piece)) xs)))) c.as_slice-pieces.ensures.value)).0

pub returns-clause-value : goal.returns-clause-value
returns-clause-value g c =
    let whole : rows_of_pieces (map (λ piece. g.P.Piece.routes (arc_value piece)) c.in_ok-flushed_pieces.field-0.items) ≡ after_edit c.args.flush.now (rows_of_pieces (map (λ piece. g.P.Piece.routes (arc_value piece)) c.self.inside.pieces.items)) =
    (after_flush c.self.inside.cut c.args.flush.now c.args.selector.now (rows_of_pieces (map (λ piece. g.P.Piece.routes (arc_value piece)) c.self.inside.pieces.items)) (map (λ piece. g.P.Piece.routes (arc_value piece)) c.in_ok-flushed_pieces.field-0.items) c.requires c.self.invariant.0.table
    (c.in_ok-flushed_pieces.ensures.value ∙ ap (λ xs. pieces_by c.self.inside.cut 0 257 (after_edit c.args.flush.now (rows_of_pieces (map (λ piece. g.P.Piece.routes (arc_value piece)) xs)))) c.as_slice-pieces.ensures.value)).1
    in
    subst (λ pair. IfOk c.of.result (λ all. all ≡ pair)) (ap (λ rows. (c.self.inside.cut, rows)) whole ∙ ap (λ all. (all.0, after_edit c.args.flush.now all.1)) c.self.view_is) c.of.ensures.value
