use Rattle.std.proofs.Common.{◌≡◌, [], length}
use Rattle.std.specs.List.{All}
use Rattle.prt_trie.proofs.parts.with_room.Given as goal

abbrev pub invariant-loop-count : goal.invariant-loop-count
invariant-loop-count l = record { count : length l.parts.items ≡ l.count-index; empty : All (λ part. part.items ≡ []) l.parts.items }
