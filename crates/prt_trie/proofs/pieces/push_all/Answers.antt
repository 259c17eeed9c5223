use Rattle.std.proofs.Common.{◌++◌, arith, subst}
use Rattle.std.specs.Prelude.{flat_map, IsPermutation}
use Rattle.std.specs.Arc.{arc_value}
use Rattle.std.proofs.lemmas.List.{take_all}
use Rattle.prt_trie.proofs.Listings.{pushed_all, pushed_more}
use Rattle.prt_trie.proofs.pieces.push_all.Goals as goal

pub loop-piece-preserved : goal.loop-piece-preserved
loop-piece-preserved g c =
    pushed_more (λ piece. g.P.Piece.routes (arc_value piece)) c.args.pieces.now c.loop-piece.piece-index c.piece-item.result c.args.rows.now.items c.loop-piece.rows.items c.push_rows.new.rows.items
    c.loop-piece-test.true c.piece-item.is c.loop-piece.invariant (subst (λ piece. IsPermutation (c.loop-piece.rows.items ++ g.P.Piece.routes piece) c.push_rows.new.rows.items) c.deref.ensures c.in_ok-push_rows.ensures)

pub returns : goal.returns
returns g c =
    pushed_all (λ piece. g.P.Piece.routes (arc_value piece)) c.args.pieces.now c.args.rows.now.items c.loop-piece.rows.items
    (subst (λ pieces. IsPermutation (c.args.rows.now.items ++ flat_map (λ piece. g.P.Piece.routes (arc_value piece)) pieces) c.loop-piece.rows.items)
    (take_all c.loop-piece.piece-index c.args.pieces.now (omega (arith, c.loop-piece-test.false))) c.loop-piece.invariant)
