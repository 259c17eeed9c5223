use Rattle.std.proofs.Common.{◌≡◌, ℕ, ◌*◌, length, map, Some}
use Rattle.std.specs.Arc.{arc_value}
use Rattle.std.specs.List.{slice_get}
use Rattle.prt_fib.specs.Pieces.{IsPartOf}
use Rattle.prt_fib.specs.declared.piece.Piece.{Piece}
use Rattle.prt_fib.proofs.dividing.pieces_of.Given as goal

abbrev pub invariant-loop-octet : goal.invariant-loop-octet
invariant-loop-octet l = record {
  size : length (map (λ piece. arc_value piece) l.pieces.items) ≡ l.octet;
  each : (k : ℕ) (piece : Piece) → slice_get (map (λ piece. arc_value piece) l.pieces.items) k ≡ Some piece → IsPartOf l.starts l.numbers (k * 16777216) piece;
}
