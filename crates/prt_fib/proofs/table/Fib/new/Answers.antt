use Rattle.std.proofs.Common.{◌*◌, ◌<◌, ℕ, List, map, sym, subst}
use Rattle.std.specs.Arc.{arc_value}
use Rattle.std.specs.List.{Contains}
use Rattle.prt_fib.specs.Numbers.{AreNumbered}
use Rattle.prt_fib.specs.Pieces.{AreFiled, ArePartsOf}
use Rattle.prt_fib.specs.declared.piece.Piece.{Piece}
use Rattle.prt_fib.proofs.Parts.{filed_new}
use Rattle.prt_fib.proofs.table.Fib.new.Goals as goal

pub pieces_of-requires-clause-bases : goal.pieces_of-requires-clause-bases
pieces_of-requires-clause-bases c = subst (λ starts. (k : ℕ) → k < 256 → Contains starts (k * 16777216)) (sym c.deref-2.ensures.value) c.in_ok-starts.ensures.bases

pub invariant_of-result : goal.invariant_of-result
invariant_of-result c =
    let state = c.args.version.now in
    let packet = c.args.packet.now in
    let starts : List ℕ = c.in_ok-starts.starts.items in
    let numbers : List ℕ = c.in_ok-numbers.field-0.numbers.items in
    let outcomes = c.in_ok-numbers.field-0.outcomes in
    let pieces : List Piece = map (λ piece. arc_value piece) c.in_ok-pieces.pieces.items in
    let numbered : AreNumbered state packet starts numbers outcomes = subst (λ s. AreNumbered state packet s numbers outcomes) c.deref.ensures.value c.in_ok-numbers.ensures.value in
    let parts : ArePartsOf starts numbers pieces = subst (λ s. ArePartsOf s numbers pieces) c.deref-2.ensures.value (subst (λ n. ArePartsOf c.deref-2.result.now n pieces) c.deref-3.ensures.value c.in_ok-pieces.ensures) in
    subst (λ s. AreFiled s packet (arc_value c.in_ok-new.field-0) pieces) (sym c.in_ok-share.ensures)
    (subst (λ os. AreFiled state packet os pieces) (sym c.in_ok-new.ensures.ok) (filed_new state packet starts numbers outcomes c.in_ok-starts.ensures numbered pieces parts))
