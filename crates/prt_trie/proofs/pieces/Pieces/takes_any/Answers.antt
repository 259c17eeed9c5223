use Rattle.std.proofs.Common.{ap, ◌∙◌}
use Rattle.std.specs.Arc.{arc_value}
use Rattle.std.specs.List.{list_any}
use Rattle.prt_route.specs.RouteChoice.{is_selected}
use Rattle.prt_trie.proofs.Inserts.{any_joined}
use Rattle.prt_trie.proofs.pieces.Pieces.takes_any.Goals as goal

pub returns : goal.returns
returns g c =
    c.takes_one.ensures ∙ ap (list_any (λ piece. list_any (is_selected c.args.selector.now) (g.P.Piece.routes (arc_value piece)))) c.as_slice.ensures.value
    ∙ any_joined (λ piece. g.P.Piece.routes (arc_value piece)) (is_selected c.args.selector.now) c.self.inside.pieces.items
    ∙ ap (λ all. list_any (is_selected c.args.selector.now) all.1) c.self.view_is
