use Rattle.std.proofs.Common.{◌≡◌, List, [], ◌∷◌, ◌++◌, length, map, sym, ap, ◌∙◌, arith, length-append}
use Rattle.std.specs.Arc.{arc_value}
use Rattle.std.specs.List.{slice_get}
use Rattle.std.proofs.lemmas.List.{map-append}
use Rattle.prt_fib.specs.declared.piece.Piece.{Piece}
use Rattle.prt_fib.proofs.Parts.{parts_more}
use Rattle.prt_fib.proofs.dividing.pieces_of.Goals as goal

pub loop-octet-preserved : goal.loop-octet-preserved
loop-octet-preserved c =
    let old : List Piece = map (λ piece. arc_value piece) c.loop-octet.pieces.items in
    let piece : Piece = arc_value c.in_ok-piece_of.field-0 in
    let new : List Piece = map (λ piece. arc_value piece) c.push.new.self.items in
    let made : new ≡ old ++ piece ∷ [] = ap (map (λ piece. arc_value piece)) c.in_ok-push.ensures.items ∙ map-append (λ piece. arc_value piece) c.loop-octet.pieces.items (c.in_ok-piece_of.field-0 ∷ []) in
    let now = c.loop-octet.invariant in
    record {
      size = ap length made ∙ omega (arith, length-append old (piece ∷ []), now.size);
      each = λ k one at. parts_more c.args.starts.now c.args.numbers.now c.loop-octet.octet old piece now.size now.each c.in_ok-piece_of.ensures k one (ap (λ ps. slice_get ps k) (sym made) ∙ at);
    }
