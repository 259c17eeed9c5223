use Rattle.std.proofs.Common.{◌≡◌, ap, subst, sym, ◌∙◌}
use Rattle.std.specs.Arc.{arc_value}
use Rattle.std.specs.List.{list_any}
use Rattle.prt_route.specs.Edit.{after_edit}
use Rattle.prt_route.specs.RouteChoice.{is_selected}
use Rattle.prt_trie.specs.Pieces.{IsOfTheirTable}
use Rattle.prt_trie.proofs.Filters.{filter_not_none}
use Rattle.prt_trie.proofs.pieces.flushed_piece.Goals as goal

pub returns-then-not-takes_any-clause-value : goal.returns-then-not-takes_any-clause-value
returns-then-not-takes_any-clause-value g c = ap g.P.Piece.routes c.in_ok-try_clone.ensures
    ∙ subst (λ flush. g.P.Piece.routes (arc_value c.args.piece.now) ≡ after_edit flush (g.P.Piece.routes (arc_value c.args.piece.now))) (sym c.requires)
    (sym (filter_not_none (is_selected c.args.selector.now) (g.P.Piece.routes (arc_value c.args.piece.now)) (ap (λ piece. list_any (is_selected c.args.selector.now) (g.P.Piece.routes piece)) (sym c.deref-old.ensures) ∙ sym c.takes_any.ensures ∙ c.if-not-takes_any.true)))

pub with_change-requires : goal.with_change-requires
with_change-requires g c = subst (λ edit. IsOfTheirTable edit (g.P.Piece.routes c.deref-old.result.now)) (sym c.requires) tt
