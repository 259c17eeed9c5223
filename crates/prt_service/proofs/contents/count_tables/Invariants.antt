use Rattle.std.proofs.Common.{◌≡◌, ◌≤◌, ◌+◌, drop}
use Rattle.prt_service.specs.Contents.{tables_after, tables_of}
use Rattle.prt_service.proofs.contents.count_tables.Given as goal

abbrev pub invariant-loop-route : goal.invariant-loop-route
invariant-loop-route l = (l.tables ≤ l.route-index) × (l.tables + tables_after l.last (drop l.route-index l.routes) ≡ tables_of l.routes)
