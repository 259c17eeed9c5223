use Rattle.std.proofs.Common.{ap, set, ◌∙◌}
use Rattle.std.specs.Arc.{arc_value}
use Rattle.std.proofs.lemmas.List.{map-set}
use Rattle.prt_trie.proofs.pieces.owners_with.Goals as goal

pub returns : goal.returns
returns g c =
    map-set (λ piece. g.P.Piece.routes (arc_value piece)) c.in_ok-owners.owners.items c.args.number c.args.piece
    ∙ ap (λ pieces. set pieces c.args.number (g.P.Piece.routes (arc_value c.args.piece))) c.in_ok-owners.ensures
