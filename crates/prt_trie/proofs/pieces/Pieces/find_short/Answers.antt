use Rattle.std.proofs.Common.{ap, subst, sym, ◌∙◌}
use Rattle.prt_route.specs.Best.{best}
use Rattle.prt_trie.specs.Table.{IsOfTable}
use Rattle.prt_trie.proofs.Wholes.{of_table_part}
use Rattle.prt_trie.proofs.pieces.Pieces.find_short.Goals as goal

pub returns : goal.returns
returns g c table all =
    let part : IsOfTable table (g.P.Piece.routes c.piece.result.now) = subst (IsOfTable table) (sym c.piece.ensures.value) (of_table_part c.args.self.now.0 table _ c.args.self.now.1 all) in
    c.find.ensures table part ∙ ap (λ rows. best rows table c.args.addr) c.piece.ensures.value
