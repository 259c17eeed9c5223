use Rattle.std.proofs.Common.{ap, subst, sym, ◌∙◌}
use Rattle.prt_route.specs.Best.{best}
use Rattle.prt_trie.specs.Cut.{number_for}
use Rattle.prt_trie.specs.Pieces.{rows_of_piece}
use Rattle.prt_trie.specs.Table.{IsOfTable}
use Rattle.prt_trie.proofs.Wholes.{of_table_part}
use Rattle.prt_trie.proofs.pieces.Pieces.find_long.Goals as goal

pub returns-clause-value : goal.returns-clause-value
returns-clause-value g c table all =
    let part : IsOfTable table (g.P.Piece.routes c.piece.result.now) = subst (IsOfTable table) (sym c.piece.ensures.value) (of_table_part c.args.self.now.0 table _ c.args.self.now.1 all) in
    c.find.ensures table part ∙ ap (λ rows. best rows table c.args.addr) (c.piece.ensures.value ∙ ap (λ n. rows_of_piece c.args.self.now.0 n c.args.self.now.1) (c.number_for.ensures.value ∙ ap (λ cut. number_for cut c.args.addr) (ap (λ all. all.0) c.self.view_is)))
