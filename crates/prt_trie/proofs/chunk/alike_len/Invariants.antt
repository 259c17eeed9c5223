use Rattle.std.proofs.Common.{◌≡◌, true}
use Rattle.std.specs.List.{AllWithin}
use Rattle.prt_addr.specs.Prefix.{is_same_prefix}
use Rattle.prt_route.specs.declared.route.Route.{Route}
use Rattle.prt_trie.proofs.chunk.alike_len.Given as goal

abbrev pub invariant-loop-at : goal.invariant-loop-at
invariant-loop-at l = AllWithin (λ (row : Route). is_same_prefix l.prefix row.prefix ≡ true) l.rows 1 l.at
