use Rattle.std.proofs.Common.{◌≡◌, List, length, map, set, arith, ap, subst, sym, ◌∙◌}
use Rattle.std.specs.Arc.{arc_value}
use Rattle.prt_route.specs.Edit.{after_edit}
use Rattle.prt_route.specs.declared.route.Route.{Route}
use Rattle.prt_trie.specs.Pieces.{ArePieces, IsOfPiece, IsOfTheirTable, rows_of_pieces}
use Rattle.prt_trie.proofs.OnePiece.{count_of_piece, count_with_piece, with_piece}
use Rattle.prt_trie.proofs.Wholes.{fits_part, length_whole, rows_at}
use Rattle.prt_trie.proofs.pieces.Pieces.with_piece.Given as given
use Rattle.prt_trie.proofs.pieces.Pieces.with_piece.Goals as goal

pub index-requires : goal.index-requires
index-requires g c = omega (arith, c.requires.number, length_whole c.self.inside.cut (λ piece. g.P.Piece.routes (arc_value piece)) c.self.inside.pieces.items c.self.invariant.0)

pub with_change-requires : goal.with_change-requires
with_change-requires g c =
    let rows : List Route = rows_of_pieces (map (λ piece. g.P.Piece.routes (arc_value piece)) c.self.inside.pieces.items) in
    subst (IsOfTheirTable c.args.edit.now)
    (sym (ap g.P.Piece.routes c.deref-old.ensures ∙ rows_at c.self.inside.cut (λ piece. g.P.Piece.routes (arc_value piece)) c.self.inside.pieces.items c.args.number c.index.result.now c.self.invariant.0 c.requires.number
    (omega (arith, c.requires.number, length_whole c.self.inside.cut (λ piece. g.P.Piece.routes (arc_value piece)) c.self.inside.pieces.items c.self.invariant.0)) c.index.ensures))
    (fits_part c.self.inside.cut c.args.edit.now c.args.number rows (subst (λ all. IsOfTheirTable c.args.edit.now all.1) (sym c.self.view_is) c.requires.table))

pub overflow_sub-self-inside : goal.overflow_sub-self-inside
overflow_sub-self-inside g c =
    omega (
      arith,
      c.len.ensures ∙ ap (λ piece. length (g.P.Piece.routes piece)) c.deref-old.ensures,
      c.self.invariant.1,
      count_of_piece c.self.inside.cut (λ piece. g.P.Piece.routes (arc_value piece)) c.self.inside.pieces.items c.args.number c.index.result.now c.self.invariant.0 c.requires.number c.index.ensures,
    )

pub owners_with-requires : goal.owners_with-requires
owners_with-requires g c =
    omega (arith, c.requires.number, ap length c.as_slice.ensures.value, length_whole c.self.inside.cut (λ piece. g.P.Piece.routes (arc_value piece)) c.self.inside.pieces.items c.self.invariant.0)

-- the new piece is in the place of the old one
set_in : (g : given.Over) (c : goal.After-result-1 g) → map (λ piece. g.P.Piece.routes (arc_value piece)) c.in_ok-pieces.pieces.items ≡ set (map (λ piece. g.P.Piece.routes (arc_value piece)) c.self.inside.pieces.items) c.args.number (g.P.Piece.routes c.in_ok-new.new)
set_in g c =
    c.in_ok-pieces.ensures ∙ ap (λ pieces. set (map (λ piece. g.P.Piece.routes (arc_value piece)) pieces) c.args.number (g.P.Piece.routes (arc_value c.in_ok-new-2.field-0))) c.as_slice.ensures.value
    ∙ ap (λ piece. set (map (λ piece. g.P.Piece.routes (arc_value piece)) c.self.inside.pieces.items) c.args.number (g.P.Piece.routes piece)) c.in_ok-new-2.ensures.ok

edited : (g : given.Over) (c : goal.After-result-1 g) → ArePieces c.self.inside.cut (map (λ piece. g.P.Piece.routes (arc_value piece)) c.in_ok-pieces.pieces.items)
    × (rows_of_pieces (map (λ piece. g.P.Piece.routes (arc_value piece)) c.in_ok-pieces.pieces.items) ≡ after_edit c.args.edit.now (rows_of_pieces (map (λ piece. g.P.Piece.routes (arc_value piece)) c.self.inside.pieces.items)))
edited g c =
    with_piece c.self.inside.cut c.args.edit.now (λ piece. g.P.Piece.routes (arc_value piece)) c.self.inside.pieces.items c.in_ok-pieces.pieces.items c.args.number c.index.result.now (g.P.Piece.routes c.in_ok-new.new)
    c.self.invariant.0 (subst (λ all. IsOfTheirTable c.args.edit.now all.1) (sym c.self.view_is) c.requires.table) c.read_edit.ensures.prefix c.read_edit.ensures.metric c.requires.number
    (subst (λ all. IsOfPiece all.0 c.args.number c.args.edit.now) (sym c.self.view_is) c.requires.alone) c.index.ensures
    (c.in_ok-new.ensures.value ∙ ap (λ piece. after_edit c.args.edit.now (g.P.Piece.routes piece)) c.deref-old.ensures) (set_in g c)

pub invariant_of-result : goal.invariant_of-result
invariant_of-result g c = (
  (edited g c).0,
  omega (
    arith,
    c.in-Some.ensures,
    c.len-2.ensures,
    c.len.ensures ∙ ap (λ piece. length (g.P.Piece.routes piece)) c.deref-old.ensures,
    c.self.invariant.1,
    count_of_piece c.self.inside.cut (λ piece. g.P.Piece.routes (arc_value piece)) c.self.inside.pieces.items c.args.number c.index.result.now c.self.invariant.0 c.requires.number c.index.ensures,
    count_with_piece c.self.inside.cut (λ piece. g.P.Piece.routes (arc_value piece)) c.self.inside.pieces.items c.in_ok-pieces.pieces.items c.args.number c.index.result.now (g.P.Piece.routes c.in_ok-new.new) c.self.invariant.0 c.requires.number c.index.ensures (set_in g c),
  ),
)

pub returns-clause-value : goal.returns-clause-value
returns-clause-value g c = ap (λ rows. (c.self.inside.cut, rows)) (edited g c).1 ∙ ap (λ all. (all.0, after_edit c.args.edit.now all.1)) c.self.view_is
