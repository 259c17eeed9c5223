use Rattle.std.proofs.Common.{◌≡◌, ◌+◌, ◌*◌, ◌/◌, ◌≤◌, ℕ, List, map, set, sym, ap, ◌∙◌, subst, arith, Global}
use Rattle.std.specs.declared.sync.Arc.{Arc}
use Rattle.std.specs.Arc.{arc_value}
use Rattle.prt_addr.specs.Prefix.{masked}
use Rattle.prt_partition.specs.Cuts.{end}
use Rattle.prt_fib.specs.Pieces.{AreFiled, IsChangedAt, Keeps, Tells}
use Rattle.prt_fib.specs.Fib.{Table}
use Rattle.prt_fib.specs.declared.piece.Piece.{Piece}
use Rattle.prt_partition.specs.declared.sameness.Outcome.{Outcome}
use Rattle.prt_fib.proofs.Followed.{filed_after, unmasked}
use Rattle.prt_fib.proofs.Steady.{piece_at}
use Rattle.prt_fib.proofs.table.Fib.with_prefix.Goals as goal

pub piece_after-requires-clause-piece : goal.piece_after-requires-clause-piece
piece_after-requires-clause-piece c =
    let fits = c.bits-octet.type_inv in
    (c.self.invariant.each (c.bits-octet.result / 16777216) c.deref-piece.result.now
    (piece_at (λ piece. arc_value piece) c.self.inside.pieces.items (c.bits-octet.result / 16777216) c.index.result.now c.deref-piece.result.now c.self.invariant.size (omega arith) c.index.ensures c.deref-piece.ensures)).0

pub invariant_of-result : goal.invariant_of-result
invariant_of-result c =
    let inside = c.self.inside in
    let state = inside.version in
    let next = c.args.next.now in
    let packet = inside.packet in
    let prefix = c.args.prefix.now in
    let bits : ℕ = c.bits-octet.result in
    let octet : ℕ = bits / 16777216 in
    let fits = c.bits-octet.type_inv in
    let bits_is : bits ≡ (masked prefix).bits = c.bits-octet.ensures.value ∙ sym (unmasked prefix c.bits-octet.ensures.prefix) in
    let high : end prefix ≤ octet * 16777216 + 16777216 = subst (λ n. end prefix ≤ n / 16777216 * 16777216 + 16777216) (sym c.bits-octet.ensures.value) c.requires.end in
    let changed : IsChangedAt state next prefix = subst (λ (table : Table). IsChangedAt table.state next prefix) (sym c.self.view_is) c.requires.changed in
    let old : List Outcome = arc_value c.in_ok-outcomes.outcomes in
    let new : List Outcome = arc_value c.piece_after.new.outcomes in
    let keeps : Keeps old new = c.in_ok-after.ensures.keeps in
    let pieces : List Piece = map (λ piece. arc_value piece) inside.pieces.items in
    let after : List Piece = map (λ piece. arc_value piece) c.in_ok-pieces_with.field-0.items in
    let filed : AreFiled state packet old pieces = subst (λ os. AreFiled state packet os pieces) (sym c.in_ok-outcomes.ensures) c.self.invariant in
    let piece : Piece = c.deref-piece.result.now in
    let here = filed.each octet piece (piece_at (λ piece. arc_value piece) inside.pieces.items octet c.index.result.now piece filed.size (omega arith) c.index.ensures c.deref-piece.ensures) in
    let tells : Tells next packet new (octet * 16777216) c.in_ok-after.after = c.in_ok-after.ensures.told state changed here.1 in
    let made : after ≡ set pieces octet c.in_ok-after.after =
    c.in_ok-pieces_with.ensures ∙ ap (λ (owners : List (Arc Piece Global)). set (map (λ piece. arc_value piece) owners) octet c.in_ok-after.after) c.deref.ensures.value in
    subst (λ s. AreFiled s packet new after) (sym c.in_ok-share.ensures)
    (filed_after state next packet prefix changed old new keeps pieces after octet c.in_ok-after.after filed (omega arith) (omega arith) high c.in_ok-after.ensures.piece tells made)
