use Rattle.std.proofs.Common.{ap, arith, length, ◌∙◌}
use Rattle.std.specs.Prelude.{sum_by}
use Rattle.std.specs.Arc.{arc_value}
use Rattle.std.proofs.lemmas.List.{take_all}
use Rattle.prt_trie.proofs.Listings.{count_more}
use Rattle.prt_trie.proofs.pieces.count_rows.Goals as goal

pub loop-piece-preserved : goal.loop-piece-preserved
loop-piece-preserved g c =
    c.in-Some.ensures.1
    ∙ count_more (λ piece. g.P.Piece.routes (arc_value piece)) c.args.pieces.now c.loop-piece.piece-index c.piece-item.result c.loop-piece.count c.len.result c.loop-piece-test.true c.piece-item.is c.loop-piece.invariant
    (c.len.ensures ∙ ap (λ piece. length (g.P.Piece.routes piece)) c.deref.ensures)

pub returns-clause-value : goal.returns-clause-value
returns-clause-value g c =
    c.loop-piece.invariant ∙ ap (sum_by (λ piece. length (g.P.Piece.routes (arc_value piece)))) (take_all c.loop-piece.piece-index c.args.pieces.now (omega (arith, c.loop-piece-test.false)))
