use Rattle.std.proofs.Common.{◌≡◌, [], List, ◌++◌, map, ap, subst, sym, ◌∙◌}
use Rattle.std.specs.Prelude.{IsPermutation}
use Rattle.std.specs.Arc.{arc_value}
use Rattle.prt_route.specs.declared.route.Route.{Route}
use Rattle.prt_trie.specs.Pieces.{rows_of_pieces}
use Rattle.prt_trie.specs.Table.{IsTable}
use Rattle.prt_trie.proofs.Listings.{sorted_same}
use Rattle.prt_trie.proofs.pieces.Pieces.rows.Given as given
use Rattle.prt_trie.proofs.pieces.Pieces.rows.Goals as goal

-- the sorted rows are those of all pieces
sorted_is : (g : given.Over) (c : goal.After-sort_rows g) → c.sort_rows.new.rows.items ≡ rows_of_pieces (map (λ piece. g.P.Piece.routes (arc_value piece)) c.self.inside.pieces.items)
sorted_is g c =
    let all : List Route = rows_of_pieces (map (λ piece. g.P.Piece.routes (arc_value piece)) c.self.inside.pieces.items) in
    let given : IsPermutation ([] ++ all) c.push_all.new.rows.items =
    subst (λ (first : List Route). IsPermutation (first ++ all) c.push_all.new.rows.items) c.in_ok-rows.ensures.items
    (subst (λ pieces. IsPermutation (c.in_ok-rows.rows.items ++ rows_of_pieces (map (λ piece. g.P.Piece.routes (arc_value piece)) pieces)) c.push_all.new.rows.items) c.as_slice.ensures.value c.in_ok-push_all.ensures)
    in
    sorted_same all c.push_all.new.rows.items c.sort_rows.new.rows.items given c.sort_rows.ensures.same c.sort_rows.ensures.sorted c.self.invariant.0.table.rising

pub returns-clause-value : goal.returns-clause-value
returns-clause-value g c = sorted_is g c ∙ ap (λ all. all.1) c.self.view_is

pub returns-clause-table : goal.returns-clause-table
returns-clause-table g c = subst IsTable (sym (sorted_is g c)) c.self.invariant.0.table
