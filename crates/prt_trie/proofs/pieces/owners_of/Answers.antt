use Rattle.std.proofs.Common.{map, ◌++◌, ap, ◌∙◌}
use Rattle.std.specs.Arc.{arc_value}
use Rattle.prt_trie.proofs.OnePiece.{same_rows}
use Rattle.prt_trie.proofs.pieces.owners_of.Goals as goal

pub returns : goal.returns
returns g c =
    ap (map (λ piece. g.P.Piece.routes (arc_value piece))) (c.in_ok-extend_with_clones.ensures.items.1 ∙ ap (λ none. none ++ c.in_ok-extend_with_clones.ensures.items.0) c.new-owners.ensures.items) ∙ same_rows arc_value g.P.Piece.routes c.args.pieces.now _ c.in_ok-extend_with_clones.ensures.items.2
