use Rattle.std.proofs.Common.{[], ◌∷◌, ◌++◌, ◌∙◌, ap, length, subst, sym}
use Rattle.std.proofs.lemmas.Bool.{eqb-true}
use Rattle.prt_impact.specs.MarkSets.{HasMark}
use Rattle.prt_impact.specs.declared.mark_set.MarkSet.{MarkSet}
use Rattle.prt_impact.proofs.BlockLists.{ArePieces, all_pieces, no_pieces, piece_more}
use Rattle.prt_impact.proofs.mark_joining.pieces_of.Goals as goal

pub loop-rest-init : goal.loop-rest-init
loop-rest-init c =
    let blocks = c.args.blocks.now in
    subst (λ sets. ArePieces blocks sets blocks) (sym c.new-sets.ensures.items) (no_pieces blocks)

pub loop-rest-preserved : goal.loop-rest-preserved
loop-rest-preserved c =
    let sets = c.loop-rest.sets.items in
    let piece = c.split_at.result.0.now in
    piece_more c.args.blocks.now sets c.extend_from_slice.new.self.items c.loop-rest.rest.now piece c.split_at.result.1.now c.split_at.ensures.by_index.0
    (c.in_ok-extend_from_slice.ensures.items ∙ ap (λ (set : MarkSet). sets ++ set ∷ []) c.piece_of.ensures.value) (subst HasMark c.piece_of.ensures.value c.piece_of.ensures.some) c.loop-rest.invariant

pub returns : goal.returns
returns c =
    let rest = c.loop-rest.rest.now in
    all_pieces c.args.blocks.now c.loop-rest.sets.items rest (eqb-true (length rest) 0 (sym c.is_empty.ensures ∙ c.loop-rest-test.false)) c.loop-rest.invariant
