use Rattle.std.proofs.Common.{◌++◌, take}
use Rattle.std.specs.Prelude.{flat_map, IsPermutation}
use Rattle.std.specs.Arc.{arc_value}
use Rattle.prt_trie.proofs.pieces.push_all.Given as goal

abbrev pub invariant-loop-piece : goal.invariant-loop-piece
invariant-loop-piece g l = IsPermutation (l.initial.rows.items ++ flat_map (λ piece. g.P.Piece.routes (arc_value piece)) (take l.piece-index l.pieces)) l.rows.items
