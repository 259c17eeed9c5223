use Rattle.std.proofs.Common.{◌<◌, ◌^◌}
use Rattle.std.specs.List.{AllWithin}
use Rattle.prt_addr.specs.Sound.{IsPrefix}
use Rattle.prt_route.specs.declared.route.Route.{Route}
use Rattle.prt_trie.proofs.route_rows.read_all.Given as goal

abbrev pub invariant-loop-row : goal.invariant-loop-row
invariant-loop-row l = record { prefixes : AllWithin (λ (row : Route). IsPrefix row.prefix) l.rows 0 l.row-index; metrics : AllWithin (λ (row : Route). row.metric < 2 ^ 32) l.rows 0 l.row-index }
